-- Behind: the device calls that a batch makes before a step.
use Rattle.std.proofs.Common.{◌≡◌, ℕ, ◌==◌, if◌then◌else◌, List, [], ◌∷◌, ◌++◌, refl, sym, ap, subst, ◌∙◌}
use Rattle.std.specs.Prelude.{Option, Some, None}
use Rattle.nv_core.specs.state.Words.{Sizes, Word}
use Rattle.nv_core.specs.state.Cleaner.{Batch, CleanerControl, CleanerOp as CoreCleanerOp}
use Rattle.nv_core.specs.state.Cleaner as cleaner
use Rattle.nv_core.specs.state.Core.{control_worked, values_read, values_worked, with_value, worked}
use Rattle.nv_core.specs.state.Passes.{Control, Cleaning, Pass, times}
use Rattle.nv_core.specs.state.Values.{Job, CallEnding, called}
use Rattle.nv_core.specs.steps.CleanerSteps.{after_cleaner_op, next_cleaner_op, withdrawing}
use Rattle.nv_core.specs.steps.ControlSteps.{after_by_cleaner}
use Rattle.nv_core.specs.steps.Ops.{ByCleaner as CleanerStep, cleaner_move, moved}
use Rattle.nv_core.specs.steps.Order.{Values, Work, CallDue, CallEnabled, CallMayEnd, CallMayLeave}
use Rattle.nv_table.specs.state.Opened.{Opened}
use Rattle.nv_table.specs.state.States.{PassState}
use Rattle.nv_table.specs.state.Views.{PassView, OwnsSlots, pass_of, values_of, still_owned}
use Rattle.nv_table.specs.steps.CallSteps.{Precondition}
use Rattle.nv_table.specs.steps.SeatSteps.{AreDue, pass_worked, values_after, values_before}
use Rattle.nv_table.specs.steps.StepContracts.{Postcondition}
use Rattle.nv_table.proofs.invariant.DrawnLaws.{calls_leave}
use Rattle.nv_mirror.specs.PassSteps.{either_of}
use Rattle.nv_mirror.proofs.StepLaws.{between_self, opened_same}
use Rattle.nv_pages.specs.Altered.{IsAltered}
use Rattle.nv_pages.specs.DeviceCalls.{HasCalled}
use Rattle.nv_clean.specs.declared.batch.CleanControl.{CleanControl}
use Rattle.nv_clean.specs.declared.batch.CleanControl.TheVariants as cleans
use Rattle.nv_op.specs.declared.kinds.Kind.{Kind}
use Rattle.nv_op.specs.declared.kinds.Kind.TheVariants.{Stop}
use Rattle.nv_op.specs.Kinds.{kind_of_cleaner_op}
use Rattle.nv_clean.specs.declared.batch.CleanRefusal.{CleanRefusal}
use Rattle.nv_clean.specs.CleanSteps.{HasSteppedBehind}
use Rattle.nv_clean.specs.Cleaning.{AreApart, CleanState, ComesBehind, InBatch, IsAfterCalls, IsBegun, IsBehind, IsPlain, IsUnderWay, SaysStands, call_refusal, calls_refusal, control_of, files_then, inner_at, refusal_behind}
use Rattle.nv_clean.proofs.StepLaws.{plain_at}
use Rattle.nv_clean.proofs.BatchLaws.{worked_due, made_one, own_next, goes_on}

-- ---- one call more

pub due_more : (sizes : Sizes) (works : List Work) (work : Work) (values : Values) (pass : Pass) → AreDue sizes values pass works → CallEnabled sizes (values_after sizes works pass values) (pass_worked sizes works pass) work
    → AreDue sizes values pass (works ++ work ∷ [])
due_more sizes [] work values pass due may = (may, tt)
due_more sizes (first ∷ later) work values pass due may = (due.0, due_more sizes later work _ _ due.1 may)

pub worked_more : (sizes : Sizes) (works : List Work) (work : Work) (pass : Pass) → pass_worked sizes (works ++ work ∷ []) pass ≡ worked sizes work (pass_worked sizes works pass)
worked_more sizes [] work pass = refl
worked_more sizes (first ∷ later) work pass = worked_more sizes later work (worked sizes first pass)

pub values_more : (sizes : Sizes) (works : List Work) (work : Work) (pass : Pass) (values : Values) → values_after sizes (works ++ work ∷ []) pass values ≡ values_worked (pass_worked sizes works pass) work (values_after sizes works pass values)
values_more sizes [] work pass values = refl
values_more sizes (first ∷ later) work pass values = values_more sizes later work (worked sizes first pass) (values_worked pass first values)

either_empty : {T : Type 0} (one : Option T) → one ≡ either_of one None
either_empty None = refl
either_empty (Some one) = refl

either_assoc : {T : Type 0} (one other third : Option T) → either_of one (either_of other third) ≡ either_of (either_of one other) third
either_assoc None other third = refl
either_assoc (Some one) other third = refl

pub calls_more : (works : List Work) (work : Work) → calls_refusal (works ++ work ∷ []) ≡ either_of (calls_refusal works) (call_refusal work.cell work.ending)
calls_more [] work = sym (either_empty (call_refusal work.cell work.ending))
calls_more (first ∷ later) work = ap (either_of (call_refusal first.cell first.ending)) (calls_more later work) ∙ either_assoc (call_refusal first.cell first.ending) (calls_refusal later) (call_refusal work.cell work.ending)

-- before the first one
pub behind_none : (m : CleanState) (start now : PassState) → IsUnderWay m start now → IsBehind (control_of now.view.opened.sizes m) None m start now now
behind_none m start now way = record {
  control = control_of now.view.opened.sizes m;
  called = way.called;
  apart = way.apart;
  between = between_self now;
  works = [];
  due = tt;
  stands_so = way.called.control_is;
  refused = refl;
  shows = way.called.still;
}

module _ (stands : Control) (refusal : Option CleanRefusal) (m : CleanState) (start was now : PassState) (behind : IsBehind stands refusal m start was now) where
  abbrev sizes : Sizes
  sizes = was.view.opened.sizes

  abbrev pass_then : Pass
  pass_then = pass_worked sizes behind.works (pass_of was.view)

  abbrev values_now : Values
  values_now = values_before was.view behind.works

  -- what the pass owns shows
  pub shows_now : OwnsSlots now.view.opened.sizes (λ value. value) values_now (still_owned (pass_of was.view)) now.now
  shows_now = subst (λ (v : PassView). OwnsSlots v.opened.sizes (λ value. value) values_now (still_owned (pass_of was.view)) now.now) (sym behind.between.view) behind.shows

  abbrev pub behind_call : (cell : Word) (job : Job) (ending : CallEnding) (next : PassState) → CallMayEnd (values_now cell) ending → CallMayLeave (values_now cell) job ending
      → IsAltered (λ kept. with_value kept cell (called job ending (kept cell))) now next → ((kept : Values) → values_read pass_then.units job ending pass_then.control kept ≡ kept) → CallDue sizes values_now pass_then record { cell = cell; job = job; ending = ending } stands → times cell m.owned ≡ 1
      → (then_stands : Control) → control_worked sizes pass_then ending stands ≡ then_stands → IsBehind then_stands (either_of refusal (call_refusal cell ending)) m start was next
  behind_call cell job ending next ends leaves altered plain due here then_stands goes = record {
    control = behind.control;
    called = behind.called;
    apart = behind.apart;
    between = record { table = altered.table ∙ behind.between.table; view = altered.view ∙ behind.between.view; spare = altered.spare ∙ behind.between.spare };
    works = behind.works ++ (record { cell = cell; job = job; ending = ending }) ∷ [];
    due = due_more sizes behind.works (record { cell = cell; job = job; ending = ending }) (values_of was.view) (pass_of was.view) behind.due record {
      due = subst (CallDue sizes values_now pass_then (record { cell = cell; job = job; ending = ending })) (sym behind.stands_so) due;
      ends = ends;
      leaves = leaves;
      here = ap (times cell) (calls_leave (λ (p : Pass). p.owned) (λ sizes work p. refl) sizes behind.works (pass_of was.view) ∙ behind.called.owned_is) ∙ here;
    };
    stands_so = ap (λ (p : Pass). p.control) (worked_more sizes behind.works (record { cell = cell; job = job; ending = ending }) (pass_of was.view)) ∙ ap (control_worked sizes pass_then ending) behind.stands_so ∙ goes;
    refused = calls_more behind.works (record { cell = cell; job = job; ending = ending }) ∙ ap (λ r. either_of r (call_refusal cell ending)) behind.refused;
    shows = subst (λ values. OwnsSlots sizes (λ value. value) values (still_owned (pass_of was.view)) next.now) (sym (values_more sizes behind.works (record { cell = cell; job = job; ending = ending }) (pass_of was.view) (values_of was.view) ∙ plain (with_value values_now cell (called job ending (values_now cell)))))
        (subst (λ (v : PassView). OwnsSlots v.opened.sizes (λ value. value) (with_value values_now cell (called job ending (values_now cell))) (still_owned (pass_of was.view)) next.now) behind.between.view
        (altered.owns_slots values_now (still_owned (pass_of was.view)) shows_now));
  }

  abbrev pub behind_more : (cell : Word) (job : Job) (ending : CallEnding) (next : PassState) → HasCalled cell job ending now next
      → ((kept : Values) → values_read pass_then.units job ending pass_then.control kept ≡ kept) → CallDue sizes values_now pass_then record { cell = cell; job = job; ending = ending } stands → times cell m.owned ≡ 1
      → (then_stands : Control) → control_worked sizes pass_then ending stands ≡ then_stands → IsBehind then_stands (either_of refusal (call_refusal cell ending)) m start was next
  behind_more cell job ending next call =
      behind_call cell job ending next (call.ends values_now (still_owned (pass_of was.view)) shows_now) (call.leaves values_now (still_owned (pass_of was.view)) shows_now) call.altered

-- ---- the step behind them

module _ (batch : Batch) (inner : CleanerControl) (refusal : Option CleanRefusal) (m : CleanState) (start was now : PassState) (behind : IsBehind (Cleaning batch inner) refusal m start was now) where
  pub behind_due : (op : CoreCleanerOp) → next_cleaner_op now.view.opened.sizes m.owned batch inner ≡ Some op
      → (due : Precondition now None (CleanerStep op)) × (((pass_worked now.view.opened.sizes due.works (pass_of now.view)).control ≡ Cleaning batch inner) × (calls_refusal due.works ≡ refusal))
  behind_due op next =
      let due = worked_due behind.control m.owned start was behind.called now behind.between behind.works batch inner op behind.due behind.stands_so
      (subst (λ (v : PassView). next_cleaner_op v.opened.sizes m.owned batch inner ≡ Some op) behind.between.view next) behind.shows in (
        due.0,
        (
          ap (λ works. (pass_worked now.view.opened.sizes works (pass_of now.view)).control) due.1
              ∙ ap (λ (v : PassView). (pass_worked v.opened.sizes behind.works (pass_of v)).control) behind.between.view ∙ behind.stands_so,
          ap calls_refusal due.1 ∙ behind.refused,
        ),
      )

  module _ (op : CoreCleanerOp) (found : ℕ) (new : PassState) (step : Postcondition now None (CleanerStep op) found new) where
    pub behind_made : (kind : Kind) → kind_of_cleaner_op op ≡ kind → calls_refusal step.works ≡ refusal → HasSteppedBehind kind refusal was new
    behind_made kind of_kind refused = record { step = _; taken = made_one behind.control m.owned start was behind.called now behind.between op found new step; opens = refl; op = op; op_is = refl; kind_is = of_kind; refused = refused }

    pub behind_on : (sizes : Sizes) → next_cleaner_op sizes m.owned batch inner ≡ Some op → (pass_worked now.view.opened.sizes step.works (pass_of now.view)).control ≡ Cleaning batch inner
        → InBatch (after_by_cleaner was.view.opened.sizes (moved (cleaner_move was.view.opened.sizes op found) m.owned) op found (Cleaning batch inner)) (moved (cleaner_move was.view.opened.sizes op found) m.owned) start new
    behind_on sizes next so =
        goes_on behind.control m.owned start was behind.called now behind.between op found new step (own_next behind.control m.owned start was behind.called now behind.between op found new step sizes batch inner so next)
        (Cleaning batch inner) so

-- ---- it goes on where a step comes behind them

pub comes_plain : (control : CleanControl) → ComesBehind control → IsPlain control
comes_plain (cleans.HoldEntry at) comes = tt
comes_plain (cleans.CleanEntry at) comes = tt
comes_plain (cleans.ReturnEntry at end) comes = tt
comes_plain (cleans.FreeEntry number) comes = tt
comes_plain control comes = absurd comes

files_stay : (sizes : Sizes) (batch : Batch) (control : CleanControl) (found : ℕ) → ComesBehind control → files_then sizes batch control found ≡ batch.files
files_stay s batch (cleans.HoldEntry at) found comes = refl
files_stay s batch (cleans.CleanEntry at) found comes = refl
files_stay s batch (cleans.ReturnEntry at end) found comes = refl
files_stay s batch (cleans.FreeEntry number) found comes = refl
files_stay s batch control found comes = absurd comes

module _ (m : CleanState) (start was now : PassState) (behind : IsAfterCalls m start was now) (comes : ComesBehind m.control) where
  abbrev mount_sizes : Sizes
  mount_sizes = now.view.opened.sizes

  abbrev inner_then : CleanerControl
  inner_then = inner_at mount_sizes m.batch m.control

  at_mid : control_of mount_sizes m ≡ Cleaning m.batch inner_then
  at_mid = plain_at mount_sizes m.batch m.control (comes_plain m.control comes)

  behind_mid : IsBehind (Cleaning m.batch inner_then) (refusal_behind m.control) m start was now
  behind_mid = subst (λ c. IsBehind c (refusal_behind m.control) m start was now) at_mid behind

  pub after_due : (op : CoreCleanerOp) (said : List Work → Type 0) → SaysStands said (control_of mount_sizes m) (refusal_behind m.control) now → next_cleaner_op mount_sizes m.owned m.batch inner_then ≡ Some op
      → (due : Precondition now None (CleanerStep op)) × said due.works
  after_due op said says next = let due = behind_due m.batch inner_then (refusal_behind m.control) m start was now behind_mid op next in (due.0, (says due.0.works).1 (due.1.0 ∙ sym at_mid) due.1.1)

  module _ (op : CoreCleanerOp) (found : ℕ) (new : PassState) (step : Postcondition now None (CleanerStep op) found new) where
    pub after_made : (said : List Work → Type 0) → SaysStands said (control_of mount_sizes m) (refusal_behind m.control) now → said step.works → (kind : Kind) → kind_of_cleaner_op op ≡ kind
        → HasSteppedBehind kind (refusal_behind m.control) was new
    after_made said says so kind of_kind = behind_made m.batch inner_then (refusal_behind m.control) m start was now behind_mid op found new step kind of_kind ((says step.works).0 so).1

    opened_new : new.view.opened ≡ was.view.opened
    opened_new = opened_same now new None (CleanerStep op) found step ∙ ap (λ (v : PassView). v.opened) behind.between.view

    same_sizes : mount_sizes ≡ was.view.opened.sizes
    same_sizes = ap (λ (v : PassView). v.opened.sizes) behind.between.view

    abbrev IsThen : CleanState → List Word → Sizes → Type 0
    IsThen then_is owns s =
        owns ≡ moved (cleaner_move s op found) m.owned → then_is.owned ≡ owns → control_of s then_is ≡ after_cleaner_op s owns m.batch (inner_at s m.batch m.control) found → then_is.batch.files ≡ files_then s m.batch m.control found
        → IsUnderWay then_is start new

    is_then : next_cleaner_op mount_sizes m.owned m.batch inner_then ≡ Some op → ((pass_worked now.view.opened.sizes step.works (pass_of now.view)).control ≡ control_of mount_sizes m) → (then_is : CleanState) (owns : List Word) → IsBegun then_is.control → IsThen then_is owns was.view.opened.sizes
    is_then next so then_is owns begun move owned control files = record {
      called = subst (λ (o : Opened). InBatch (control_of o.sizes then_is) then_is.owned start new) (sym opened_new)
          (subst (λ c. InBatch c then_is.owned start new) (sym (control ∙ ap (λ o. after_cleaner_op was.view.opened.sizes o m.batch (inner_at was.view.opened.sizes m.batch m.control) found) move))
          (subst (λ o. InBatch (after_cleaner_op was.view.opened.sizes (moved (cleaner_move was.view.opened.sizes op found) m.owned) m.batch (inner_at was.view.opened.sizes m.batch m.control) found) o start new) (sym (owned ∙ move))
          (subst (λ (s : Sizes). InBatch (after_cleaner_op was.view.opened.sizes (moved (cleaner_move was.view.opened.sizes op found) m.owned) m.batch (inner_at s m.batch m.control) found) (moved (cleaner_move was.view.opened.sizes op found) m.owned) start new) same_sizes
          (behind_on m.batch inner_then (refusal_behind m.control) m start was now behind_mid op found new step mount_sizes next (so ∙ at_mid)))));
      apart = subst AreApart (sym (files ∙ files_stay was.view.opened.sizes m.batch m.control found comes)) behind.apart;
      fresh = λ at. absurd (subst IsBegun at begun);
    }

    pub after_then : (said : List Work → Type 0) → SaysStands said (control_of mount_sizes m) (refusal_behind m.control) now → said step.works → next_cleaner_op mount_sizes m.owned m.batch inner_then ≡ Some op → (s : Sizes) → s ≡ mount_sizes → (then_is : CleanState) (owns : List Word) → IsBegun then_is.control → IsThen then_is owns s
    after_then said says so next s same then_is owns begun = subst (IsThen then_is owns) (sym (same ∙ same_sizes)) (is_then next ((says step.works).0 so).0 then_is owns begun)

-- it may go on elsewhere with what it owns
pub behind_as : (stands then_stands : Control) (refusal : Option CleanRefusal) (m mid : CleanState) (start was now : PassState) → IsBehind stands refusal m start was now → stands ≡ then_stands → m.owned ≡ mid.owned → m.batch.files ≡ mid.batch.files
    → IsBehind then_stands refusal mid start was now
behind_as stands then_stands refusal m mid start was now behind same owned files = record {
  control = behind.control;
  called = subst (λ o. InBatch behind.control o start was) owned behind.called;
  apart = subst AreApart files behind.apart;
  between = behind.between;
  works = behind.works;
  due = behind.due;
  stands_so = behind.stands_so ∙ same;
  refused = behind.refused;
  shows = behind.shows;
}

-- ---- and where STOP is set behind them

module _ (held : ℕ) (refusal : Option CleanRefusal) (m : CleanState) (start was now : PassState) (behind : IsBehind (Cleaning m.batch (cleaner.SetStop held)) refusal m start was now)
    (said : List Work → Type 0) (says : SaysStands said (Cleaning m.batch (cleaner.SetStop held)) refusal now) where
  pub stop_due : (due : Precondition now None (CleanerStep cleaner.Stop)) × said due.works
  stop_due = let due = behind_due m.batch (cleaner.SetStop held) refusal m start was now behind cleaner.Stop refl in (due.0, (says due.0.works).1 due.1.0 due.1.1)

  module _ (found : ℕ) (new : PassState) (step : Postcondition now None (CleanerStep cleaner.Stop) found new) (so : said step.works) where
    pub stop_made : HasSteppedBehind Stop refusal was new
    stop_made = behind_made m.batch (cleaner.SetStop held) refusal m start was now behind cleaner.Stop found new step Stop refl ((says step.works).0 so).1

    pub stop_then : (then_is : CleanState) → IsBegun then_is.control → then_is.owned ≡ m.owned → then_is.batch.files ≡ m.batch.files
        → ((s : Sizes) → control_of s then_is ≡ (if held == 0 then withdrawing m.owned m.batch else Cleaning m.batch (cleaner.FailedReturnEntry 0 held))) → IsUnderWay then_is start new
    stop_then then_is begun owned files control = record {
      called = subst (λ c. InBatch c then_is.owned start new) (sym (control new.view.opened.sizes))
          (subst (λ o. InBatch (if held == 0 then withdrawing m.owned m.batch else Cleaning m.batch (cleaner.FailedReturnEntry 0 held)) o start new) (sym owned)
          (behind_on m.batch (cleaner.SetStop held) refusal m start was now behind cleaner.Stop found new step new.view.opened.sizes refl ((says step.works).0 so).0));
      apart = subst AreApart (sym files) behind.apart;
      fresh = λ at. absurd (subst IsBegun at begun);
    }
