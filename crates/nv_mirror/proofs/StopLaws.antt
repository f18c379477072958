-- Stops: the steps of a call set STOP exactly where it is refused for a device fault.
use Rattle.std.proofs.Common.{◌≡◌, ℕ, ◌==◌, nat_lt, ◌||◌, ◌⊎◌, ◌+◌, ◌^◌, Bool, true, false, if◌then◌else◌, List, [], ◌∷◌, inl, inr, refl, sym, ap, ap₂, subst, ◌∙◌}
use Rattle.std.specs.Prelude.{Option, Some, None}
use Rattle.nv_plain.specs.declared.call.FileCall.{FileCall}
use Rattle.nv_core.specs.invariant.InvariantLaws.{RunsAreSound}
use Rattle.nv_core.specs.invariant.Ownership.{is_among}
use Rattle.nv_core.specs.state.Cleaner.{TakeCleaner}
use Rattle.nv_core.specs.state.Core.{control_worked, worked, values_worked}
use Rattle.nv_core.specs.state.Passes.{Control, Pass, Idle, TakePage, LoadLength, TakeSize, LoadStop, LoadOrder, VisitPage, Searching, TakeCleanup, TakeStore, ReadStore, GiveStore, ReadLoadHead, ReadLoadTail, LoadEntry, HoldEntry, ReadPiece, ReturnEntry, GiveCleanup, WriteLoadHead, WriteLoadTail, DrawNumbers, SeizeEntry, CommitGroup, PledgePage, ReadyEntry, TakePlace, GrowLength, GiveSize, GivePage, GiveBack, SetStopAfterRead, SetStopAfterPiece, SetStopAfterCommit, BreakEntry, Cleaning, is_read, is_write, first_page, end_page, page_count, without, plain_call}
use Rattle.nv_core.specs.state.Values.{CallEnding, Made, Failed, Refused}
use Rattle.nv_core.specs.state.Words.{Sizes, Word, STOP, ORDER, HEAD, TAIL, LENGTH, STORE, ENTRY, HINT, PAGE, SIZE, CLEANUP, DIRTY, slot_of_entry, place}
use Rattle.nv_core.specs.steps.ControlSteps.{control_after, first_control, leaving, giving, ending, ordered, scanning, after_give, after_head, after_load, after_look, after_page, after_return, after_stop, after_tail, after_hold, copying, hinted, refused}
use Rattle.nv_core.specs.steps.Frames.{OwnEventsTell}
use Rattle.nv_core.specs.steps.Opening.{IsMount}
use Rattle.nv_core.specs.steps.Ops.{Op, Load, Take, Give, Place, Stop, Draw, Seize, Pledge, Ready, Grow, Break, Hold, Return, Turn, Hint, ByCleaner, Split, PutBack, Join}
use Rattle.nv_core.specs.steps.Order.{Values, Work, Enabled, CallDue, IsFailing, IsBatchEntry, step_at}
use Rattle.nv_core.proofs.state.Choices.{if_both}
use Rattle.nv_core.proofs.steps.NextSteps.{next_steps_may_come}
use Rattle.nv_core.proofs.steps.CleanerControls.{of_cleaner_worked}
use Rattle.nv_table.specs.state.Opened.{Opened, mount_of}
use Rattle.nv_table.specs.state.States.{PassState}
use Rattle.nv_table.specs.state.Views.{PassView, pass_of}
use Rattle.nv_table.specs.steps.SeatSteps.{AreDue, pass_before, pass_worked, with_call}
use Rattle.nv_table.proofs.invariant.StepAt.{IsMadeAt, made_at}
use Rattle.nv_table.proofs.steps.RunsOn.{IsPlain, step_of}
use Rattle.nv_mirror.specs.declared.answers.Refusal.{Refusal}
use Rattle.nv_mirror.specs.declared.answers.Refusal.TheVariants.{Busy, Stopped, Spent, Again, Raced, RegionFault, StoreFault}
use Rattle.nv_mirror.specs.OwnSteps.{AreOwnAs, gives_back, is_own}
use Rattle.nv_mirror.specs.PassSteps.{PassStep, HasMade, HasTaken, busy_at, either_of, fault_at, fault_by, fault_in, head_in, if_own, is_fault, is_stop, refusal_in, refused_by, stops_in}

-- ---- no device has failed

abbrev pub IsCalm : Control → Type 0
IsCalm control = IsFailing control → ⊥

leaving_calm : (owned : List Word) → IsCalm (leaving owned)
leaving_calm [] fails = fails
leaving_calm (cell ∷ rest) fails = fails

first_calm : (sizes : Sizes) (call : FileCall) → IsCalm (first_control sizes call)
first_calm sizes call = if_both IsCalm (page_count sizes call == 0) LoadStop (TakePage (first_page sizes call)) (λ _ fails. fails) (λ _ fails. fails)

giving_calm : (sizes : Sizes) (call : FileCall) → IsCalm (giving sizes call)
giving_calm sizes call = if_both IsCalm (page_count sizes call == 0) Idle (GivePage (first_page sizes call)) (λ _ fails. fails) (λ _ fails. fails)

ordered_calm : (sizes : Sizes) (call : FileCall) → IsCalm (ordered sizes call)
ordered_calm sizes call =
    if_both IsCalm (is_write call) WriteLoadHead (if is_read call then VisitPage (first_page sizes call) else TakePlace) (λ _ fails. fails)
    (λ _. if_both IsCalm (is_read call) (VisitPage (first_page sizes call)) TakePlace (λ _ fails. fails) (λ _ fails. fails))

-- nor behind a step
module _ (sizes : Sizes) (pass : Pass) where
  ending_calm : IsCalm (ending sizes pass)
  ending_calm = if_both IsCalm pass.sized GiveSize (giving sizes pass.call) (λ _ fails. fails) (λ _. giving_calm sizes pass.call)

  scanning_calm : (page number : ℕ) → IsCalm (scanning pass page number)
  scanning_calm page number = if_both IsCalm (nat_lt number pass.head) (LoadEntry page number) (GiveCleanup page) (λ _ fails. fails) (λ _ fails. fails)

  head_calm : (found : ℕ) (control : Control) → IsCalm (after_head sizes pass found control)
  head_calm found (ReadLoadHead page) = λ fails. fails
  head_calm found control = if_both IsCalm _ WriteLoadTail (leaving pass.owned) (λ _ fails. fails) (λ _. leaving_calm pass.owned)

  tail_calm : (found : ℕ) (control : Control) → IsCalm (after_tail sizes pass found control)
  tail_calm found (ReadLoadTail page) = scanning_calm page found
  tail_calm found control = if_both IsCalm _ DrawNumbers (leaving pass.owned) (λ _ fails. fails) (λ _. leaving_calm pass.owned)

  look_calm : (found : ℕ) (control : Control) → IsCalm control → IsCalm (after_look pass found control)
  look_calm found (LoadEntry page number) calm = if_both IsCalm _ (HoldEntry page number) (scanning pass page (number + 1)) (λ _ fails. fails) (λ _. scanning_calm page (number + 1))
  look_calm found control calm = calm

  hint_calm : (buffer victim : ℕ) (control : Control) → IsCalm control → IsCalm (hinted pass.pages buffer victim control)
  hint_calm buffer victim (Searching page tries search) calm = λ fails. fails
  hint_calm buffer victim control calm = calm

  load_calm : (word : Word) (found : ℕ) → IsCalm pass.control → IsCalm (after_load sizes pass word found)
  load_calm (LENGTH file) found calm = if_both IsCalm _ TakeSize LoadStop (λ _ fails. fails) (λ _ fails. fails)
  load_calm STOP found calm = if_both IsCalm (found == 0) LoadOrder (leaving pass.owned) (λ _ fails. fails) (λ _. leaving_calm pass.owned)
  load_calm ORDER found calm = if_both IsCalm _ (ordered sizes pass.call) (leaving pass.owned) (λ _. ordered_calm sizes pass.call) (λ _. leaving_calm pass.owned)
  load_calm HEAD found calm = head_calm found pass.control
  load_calm TAIL found calm = tail_calm found pass.control
  load_calm (ENTRY slot) found calm = look_calm found pass.control calm
  load_calm (DIRTY page) found calm = if_both IsCalm (found == 0) (TakeStore page false) (TakeCleanup page) (λ _ fails. fails) (λ _ fails. fails)
  load_calm (HINT buffer) found calm = hint_calm buffer found pass.control calm
  load_calm word found calm = calm

  page_calm : (page : ℕ) (control : Control) → IsCalm (after_page sizes pass.call page control)
  page_calm page (Searching missed tries search) = λ fails. fails
  page_calm page control = if_both IsCalm _ LoadLength (TakePage (page + 1)) (λ _ fails. fails) (λ _ fails. fails)

  store_calm : (control : Control) → IsCalm control → IsCalm (copying control)
  store_calm (TakeStore page dirty) calm = λ fails. fails
  store_calm control calm = calm

  busy_calm : (cell : Word) (control : Control) → IsCalm (refused pass.owned cell control)
  busy_calm (PAGE page) (Searching missed tries search) = λ fails. fails
  busy_calm cell control = leaving_calm pass.owned

  take_calm : (cell : Word) (found : ℕ) → IsCalm pass.control → IsCalm (control_after sizes pass (Take cell) found)
  take_calm (PAGE page) found calm = if_both IsCalm (found == 0) _ _ (λ _. page_calm page pass.control) (λ _. busy_calm (PAGE page) pass.control)
  take_calm (SIZE file) found calm = if_both IsCalm (found == 0) _ _ (λ _ fails. fails) (λ _. busy_calm (SIZE file) pass.control)
  take_calm (STORE file) found calm = if_both IsCalm (found == 0) _ _ (λ _. store_calm pass.control calm) (λ _. busy_calm (STORE file) pass.control)
  take_calm (CLEANUP page) found calm = if_both IsCalm (found == 0) _ _ (λ _ fails. fails) (λ _. busy_calm (CLEANUP page) pass.control)
  take_calm cell found calm = if_both IsCalm (found == 0) _ _ (λ _. calm) (λ _. busy_calm cell pass.control)

  give_calm : (cell : Word) (control : Control) → IsCalm control → IsCalm (after_give sizes pass cell control)
  give_calm cell GiveBack calm = leaving_calm (without cell pass.owned)
  give_calm cell GiveSize calm = giving_calm sizes pass.call
  give_calm cell (GivePage page) calm = if_both IsCalm _ Idle (GivePage (page + 1)) (λ _ fails. fails) (λ _ fails. fails)
  give_calm cell (GiveStore page dirty) calm = if_both IsCalm dirty (ReadLoadHead page) (VisitPage (page + 1)) (λ _ fails. fails) (λ _ fails. fails)
  give_calm cell (GiveCleanup page) calm = λ fails. fails
  give_calm cell (Searching page tries search) calm = λ fails. fails
  give_calm cell control calm = calm

  stop_calm : (control : Control) → IsCalm (after_stop pass control)
  stop_calm SetStopAfterCommit = λ fails. fails
  stop_calm (SetStopAfterPiece page number) = λ fails. fails
  stop_calm control = leaving_calm pass.owned

  return_calm : (control : Control) → IsCalm control → IsCalm (after_return sizes pass control)
  return_calm (ReturnEntry page number failed) calm =
      if_both IsCalm failed (leaving (without (ENTRY (slot_of_entry sizes number)) pass.owned)) (scanning pass page (number + 1)) (λ _. leaving_calm (without (ENTRY (slot_of_entry sizes number)) pass.owned)) (λ _. scanning_calm page (number + 1))
  return_calm control calm = calm

  hold_calm : (control : Control) → IsCalm control → IsCalm (after_hold control)
  hold_calm (HoldEntry page number) calm = λ fails. fails
  hold_calm control calm = calm

  -- of a call, where none has failed before it, or it sets STOP
  calm_after : (call : FileCall) (refusal : Option Refusal) (op : Op) (found : ℕ) → is_own call refusal op ≡ true → (is_stop op ≡ false → IsCalm pass.control) → IsCalm (control_after sizes pass op found)
  calm_after call refusal (Load word) found own calm = load_calm word found (calm refl)
  calm_after call refusal (Take cell) found own calm = take_calm cell found (calm refl)
  calm_after call refusal (Give cell) found own calm = give_calm cell pass.control (calm refl)
  calm_after call refusal (Place reply) found own calm = if_both IsCalm _ GrowLength (ending sizes pass) (λ _ fails. fails) (λ _. ending_calm)
  calm_after call refusal Stop found own calm = stop_calm pass.control
  calm_after call refusal Draw found own calm = if_both IsCalm _ (SeizeEntry found) (leaving pass.owned) (λ _ fails. fails) (λ _. leaving_calm pass.owned)
  calm_after call refusal (Seize number) found own calm = if_both IsCalm _ (CommitGroup 0) (SeizeEntry (number + 1)) (λ _ fails. fails) (λ _ fails. fails)
  calm_after call refusal (Pledge page) found own calm = if_both IsCalm _ (ReadyEntry _) (PledgePage (page + 1)) (λ _ fails. fails) (λ _ fails. fails)
  calm_after call refusal (Ready number) found own calm = if_both IsCalm _ TakePlace (ReadyEntry _) (λ _ fails. fails) (λ _ fails. fails)
  calm_after call refusal Grow found own calm = ending_calm
  calm_after call refusal (Break number) found own calm =
      let rest = without (ENTRY (slot_of_entry sizes number)) pass.owned in
      if_both IsCalm _ (leaving rest) (BreakEntry (number + 1)) (λ _. leaving_calm rest) (λ _ fails. fails)
  calm_after call refusal (Return number) found own calm = return_calm pass.control (calm refl)
  calm_after call refusal (Turn page) found own calm = λ fails. fails
  calm_after call refusal (Hint buffer page) found own calm = λ fails. fails
  calm_after call None (ByCleaner cleaner_op) found own calm = absurd (cc)
  calm_after call (Some refusal) (ByCleaner cleaner_op) found own calm = absurd (cc)
  calm_after call refusal (Hold number) found own calm = hold_calm pass.control (calm refl)
  calm_after call refusal op found own calm = calm refl

-- where one has failed STOP is set next, and nothing else
stops_there : (sizes : Sizes) (values : Values) (pass : Pass) (control : Control) → IsFailing control → step_at sizes values pass control ≡ Some Stop
stops_there sizes values pass (SetStopAfterRead page dirty) fails = refl
stops_there sizes values pass (SetStopAfterPiece page number) fails = refl
stops_there sizes values pass SetStopAfterCommit fails = refl
stops_there sizes values pass control fails = absurd fails

entry_calm : (op : Op) (control : Control) → IsBatchEntry op control → IsCalm control
entry_calm (ByCleaner (TakeCleaner most)) Idle entry = λ fails. fails
entry_calm op control entry = absurd entry

stop_so : (op : Op) → Some Stop ≡ Some op → is_stop op ≡ false → ⊥
stop_so op is other = let same : Stop ≡ op = cc in let never : true ≡ false = ap is_stop same ∙ other in cc

there_calm : (sizes : Sizes) (values : Values) (pass : Pass) (op : Op) → Enabled sizes values pass op → is_stop op ≡ false → IsCalm pass.control
there_calm sizes values pass op may other = elim may [
  | inl is ↦ λ fails. stop_so op (sym (stops_there sizes values pass pass.control fails) ∙ is) other
  | inr entry ↦ entry_calm op pass.control entry
]

-- ---- device calls

-- a device fault is one of an entry's part or of a store
abbrev pub IsFault : Option Refusal → Type 0
IsFault (Some RegionFault) = Unit {0}
IsFault (Some StoreFault) = Unit {0}
IsFault (Some refusal) = ⊥
IsFault None = Unit {0}

fault_there : (cell : Word) → IsFault (fault_at cell)
fault_there (STORE file) = tt
fault_there (ENTRY slot) = tt
fault_there cell = tt

fault_of_work : (cell : Word) (ending : CallEnding) → IsFault (fault_by cell ending)
fault_of_work cell (Failed came faults) = fault_there cell
fault_of_work cell ending = tt

either_fault : (one other : Option Refusal) → IsFault one → IsFault other → IsFault (either_of one other)
either_fault (Some refusal) other first last = first
either_fault None other first last = last

pub faults_are : (works : List Work) → IsFault (fault_in works)
faults_are [] = tt
faults_are (work ∷ later) = either_fault (fault_by work.cell work.ending) (fault_in later) (fault_of_work work.cell work.ending) (faults_are later)

first_fails : (one other : Option Refusal) → is_fault one ≡ true → is_fault (either_of one other) ≡ true
first_fails (Some refusal) other fails = fails
first_fails None other fails = absurd (cc)

last_fails : (one other : Option Refusal) → IsFault one → is_fault other ≡ true → is_fault (either_of one other) ≡ true
last_fails (Some RegionFault) other is fails = refl
last_fails (Some StoreFault) other is fails = refl
last_fails (Some refusal) other is fails = absurd is
last_fails None other is fails = fails

-- one leads to STOP only where it has failed
module _ (sizes : Sizes) (values : Values) (pass : Pass) (work : Work) where
  call_on : (ending : CallEnding) (control : Control) → CallDue sizes values pass work control → IsCalm (control_worked sizes pass ending control) ⊎ (is_fault (fault_by work.cell ending) ≡ true)
  call_on Made (CommitGroup calls) due = inl (if_both IsCalm _ (PledgePage (first_page sizes pass.call)) (CommitGroup _) (λ _ fails. fails) (λ _ fails. fails))
  call_on Made (ReadStore page dirty) due = inl (λ fails. fails)
  call_on Made (ReadPiece page number) due = inl (λ fails. fails)
  call_on Made (Cleaning batch inner) due = inl (of_cleaner_worked IsCalm (λ fails. fails) (λ b c fails. fails) batch Made inner)
  call_on (Failed came faults) (CommitGroup calls) due = inr (ap (λ cell. is_fault (fault_at cell)) due.cell)
  call_on (Failed came faults) (ReadStore page dirty) due = inr (ap (λ cell. is_fault (fault_at cell)) due.cell)
  call_on (Failed came faults) (ReadPiece page number) due = inr (ap (λ cell. is_fault (fault_at cell)) due.cell)
  call_on (Failed came faults) (Cleaning batch inner) due = inl (of_cleaner_worked IsCalm (λ fails. fails) (λ b c fails. fails) batch (Failed came faults) inner)
  call_on Refused (CommitGroup calls) due = inl (λ fails. fails)
  call_on Refused (ReadStore page dirty) due = inl (λ fails. fails)
  call_on Refused (ReadPiece page number) due = inl (λ fails. fails)
  call_on Refused (Cleaning batch inner) due = inl (of_cleaner_worked IsCalm (λ fails. fails) (λ b c fails. fails) batch Refused inner)
  call_on how control due = absurd due

works_fail : (sizes : Sizes) (works : List Work) (values : Values) (pass : Pass) → AreDue sizes values pass works → IsCalm pass.control → IsFailing (pass_worked sizes works pass).control → is_fault (fault_in works) ≡ true
works_fail sizes [] values pass due calm fails = absurd (calm fails)
works_fail sizes (work ∷ later) values pass due calm fails = elim (call_on sizes values pass work work.ending pass.control due.0.due) [
  | inl still ↦ last_fails (fault_by work.cell work.ending) (fault_in later) (fault_of_work work.cell work.ending)
      (works_fail sizes later (values_worked pass work values) (worked sizes work pass) due.1 still fails)
  | inr failed ↦ first_fails (fault_by work.cell work.ending) (fault_in later) failed
]

-- ---- the steps of a call

-- none of them is between passes
pub own_plain : (call : FileCall) (refusal : Option Refusal) (op : Op) → is_own call refusal op ≡ true → IsPlain op
own_plain call None Split own = absurd (cc)
own_plain call None (PutBack cell) own = absurd (cc)
own_plain call None (Join number) own = absurd (cc)
own_plain call (Some refusal) Split own = absurd (cc)
own_plain call (Some refusal) (PutBack cell) own = absurd (cc)
own_plain call (Some refusal) (Join number) own = absurd (cc)
own_plain call refusal op own = tt

pub mild_both : (b : Bool) (one other : Option Refusal) → is_fault one ≡ false → is_fault other ≡ false → is_fault (if b then one else other) ≡ false
mild_both true one other first last = first
mild_both false one other first last = last

or_false : (b : Bool) → b || false ≡ b
or_false true = refl
or_false false = refl

module _ (sizes : Sizes) (call : FileCall) where
  -- a step sets STOP where it refuses its call for a device fault
  sets_by : (head : ℕ) (works : List Work) (op : Op) (found : ℕ) → (op ≡ Stop → is_fault (fault_in works) ≡ true) → is_stop op ≡ is_fault (refused_by sizes call head works op found)
  sets_by head works (Take (PAGE page)) found fails =
      let busy = mild_both (found == 0) None (Some (Busy (place sizes (PAGE page)))) refl refl in
      sym (mild_both (found == 0) None (if_own sizes call page (busy_at sizes (PAGE page) found)) refl
      (mild_both (is_among (first_page sizes call) (end_page sizes call) page) (busy_at sizes (PAGE page) found) None busy refl))
  sets_by head works (Take cell) found fails = sym (mild_both (found == 0) None (Some (Busy (place sizes cell))) refl refl)
  sets_by head works (Load STOP) found fails = sym (mild_both (found == 0) None (Some Stopped) refl refl)
  sets_by head works (Load ORDER) found fails = sym (mild_both (nat_lt found (2 ^ 60)) None (Some (Spent found)) refl refl)
  sets_by head works (Load HEAD) found fails = sym (mild_both _ (Some (Spent found)) None refl refl)
  sets_by head works (Load TAIL) found fails = sym (mild_both _ (Some (Again head found)) None refl refl)
  sets_by head works Draw found fails = sym (mild_both (found == head) None (Some (Raced head found)) refl refl)
  sets_by head works Stop found fails = sym (fails refl)
  sets_by head works op found fails = refl

  back_unset : (refusal : Refusal) (op : Op) → gives_back call refusal op ≡ true → is_stop op ≡ false
  back_unset refusal Stop back = absurd (cc)
  back_unset refusal op back = refl

  next_sets : (step : PassStep) (earlier : List PassStep) (before : Option Refusal) → refusal_in sizes call earlier ≡ before → stops_in earlier ≡ is_fault (refusal_in sizes call earlier) → is_own call (refusal_in sizes call earlier) step.op ≡ true
      → (step.op ≡ Stop → is_fault (fault_in step.works) ≡ true) → stops_in (step ∷ earlier) ≡ is_fault (refusal_in sizes call (step ∷ earlier))
  next_sets step earlier None so_far set own fails =
      ap (λ b. b || is_stop step.op) (set ∙ ap is_fault so_far) ∙ sets_by (head_in earlier) step.works step.op step.found fails
      ∙ sym (ap (λ r. is_fault (either_of r (refused_by sizes call (head_in earlier) step.works step.op step.found))) so_far)
  next_sets step earlier (Some refusal) so_far set own fails =
      ap₂ (λ a b. a || b) (set ∙ ap is_fault so_far) (back_unset refusal step.op (sym (ap (λ r. is_own call r step.op) so_far) ∙ own)) ∙ or_false (is_fault (Some refusal))
      ∙ sym (ap (λ r. is_fault (either_of r (refused_by sizes call (head_in earlier) step.works step.op step.found))) so_far)

  module _ (sound : RunsAreSound) (tell : OwnEventsTell) (start : PassState) (mount : IsMount (mount_of start.view.opened)) where
    -- what is so of the pass after some steps
    record Stands (now : PassState) : Type 0 where
      opened : now.view.opened ≡ start.view.opened
      calm : IsCalm (pass_of now.view).control

    -- a step behind some, with the pass as it finds it
    module _ (step : PassStep) (middle now : PassState) (opened : middle.view.opened ≡ start.view.opened) (taken : HasTaken step middle now) (refusal : Option Refusal) (own : is_own call refusal step.op ≡ true) where
      abbrev seen : PassView
      seen = taken.before.view

      abbrev there : Pass
      there = pass_before seen step.opens taken.stepped.works

      seen_opened : seen.opened ≡ start.view.opened
      seen_opened = ap (λ (v : PassView). v.opened) taken.between.view ∙ opened

      come : IsMadeAt seen taken.stepped.steps.run taken.stepped.works step.opens step.op step.found
      come = made_at sound tell seen now.view taken.stepped.works step.opens step.op step.found (subst (λ (o : Opened). IsMount (mount_of o)) (sym seen_opened) mount) taken.stepped.steps

      may : Enabled seen.opened.sizes come.core.values there step.op
      may = subst (λ p. Enabled seen.opened.sizes come.core.values p step.op) come.own (step_of seen.opened.sizes seen.number come.core step.op (own_plain call refusal step.op own) come.may.may)

      stands_on : Stands now
      stands_on = record {
        opened = ap (λ (v : PassView). v.opened) taken.stepped.steps.is ∙ seen_opened;
        calm = λ fails.
            calm_after seen.opened.sizes there call refusal step.op step.found own (there_calm seen.opened.sizes come.core.values there step.op may)
            (subst IsFailing (ap (λ (p : Pass). p.control) taken.stepped.pass) fails);
      }

      -- where it sets STOP a device has failed
      fails_there : step.op ≡ Stop → IsFailing there.control
      fails_there is = next_steps_may_come seen.opened.sizes come.core.values there Stop (subst (Enabled seen.opened.sizes come.core.values there) is may)

      first_sets : (asked : FileCall) → step.opens ≡ Some asked → step.op ≡ Stop → ⊥
      first_sets asked opens is =
          first_calm seen.opened.sizes (plain_call asked)
          (subst IsFailing (ap (λ o. (with_call seen.opened.sizes o (pass_worked seen.opened.sizes taken.stepped.works (pass_of seen))).control) opens) (fails_there is))

      later_sets : step.opens ≡ None → Stands middle → step.op ≡ Stop → is_fault (fault_in step.works) ≡ true
      later_sets opens was is =
          ap (λ works. is_fault (fault_in works)) (sym taken.works_are)
          ∙ works_fail seen.opened.sizes taken.stepped.works _ (pass_of seen) taken.stepped.due (λ fails. was.calm (subst (λ (v : PassView). IsFailing (pass_of v).control) taken.between.view fails))
          (subst IsFailing (ap (λ o. (with_call seen.opened.sizes o (pass_worked seen.opened.sizes taken.stepped.works (pass_of seen))).control) opens) (fails_there is))

    stands : (asked : FileCall) (steps : List PassStep) (now : PassState) → HasMade steps start now → AreOwnAs sizes asked call steps → Stands now
    stands asked [] now all own = absurd own
    stands asked (step ∷ []) now all own = stands_on step all.0 now (ap (λ (p : PassState). p.view.opened) all.1) all.2 None own.1
    stands asked (step ∷ (other ∷ earlier)) now all own =
        stands_on step all.0 now (stands asked (other ∷ earlier) all.0 all.1 own.2).opened all.2 (refusal_in sizes call (other ∷ earlier)) own.1

    -- its steps set STOP exactly where it is refused for a device fault
    pub sets_stop : (asked : FileCall) (steps : List PassStep) (now : PassState) → HasMade steps start now → AreOwnAs sizes asked call steps → stops_in steps ≡ is_fault (refusal_in sizes call steps)
    sets_stop asked [] now all own = absurd own
    sets_stop asked (step ∷ []) now all own =
        next_sets step [] None refl refl own.1 (λ is. absurd (first_sets step all.0 now (ap (λ (p : PassState). p.view.opened) all.1) all.2 None own.1 asked own.0 is))
    sets_stop asked (step ∷ (other ∷ earlier)) now all own =
        let was = stands asked (other ∷ earlier) all.0 all.1 own.2 in
        let refusal = refusal_in sizes call (other ∷ earlier) in
        next_sets step (other ∷ earlier) refusal refl (sets_stop asked (other ∷ earlier) all.0 all.1 own.2) own.1 (later_sets step all.0 now was.opened all.2 refusal own.1 own.0 was)
