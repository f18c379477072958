-- Noted: a machine notes of its batch what the batch's steps came to.
use Rattle.std.proofs.Common.{◌≡◌, ◌⊎◌, inl, inr, ℕ, zero, suc, ◌-◌, ◌<◌, ◌==◌, ◌||◌, Bool, true, false, if◌then◌else◌, List, [], ◌∷◌, refl, sym, ap, ap₂, subst, ◌∙◌, arith, ◌+◌, ◌≤◌}
use Rattle.std.specs.Prelude.{Option, Some, None, is_some}
use Rattle.nv_core.specs.state.Words.{Sizes, Word, CLEANER, HEADER, STORE, place}
use Rattle.nv_core.specs.state.Cleaner.{Batch, CleanerControl, WriteBack, CleanEntry, RefusedReturnEntry, SyncStores, MoveHeaderTail, FreeEntry, AdvanceTail, SetStop, CleanerOp, TakeCleaner, MoveTail}
use Rattle.nv_core.specs.state.Cleaner as cleaner
use Rattle.nv_core.specs.state.Passes.{Control, Idle, Cleaning, Pass}
use Rattle.nv_core.specs.steps.CleanerSteps.{new_batch, rising_files, syncing}
use Rattle.nv_core.specs.steps.Frames.{OwnEventsTell}
use Rattle.nv_core.specs.steps.Opening.{IsMount}
use Rattle.nv_core.specs.steps.Ops.{ByCleaner}
use Rattle.nv_core.specs.steps.Order.{Work}
use Rattle.nv_core.specs.invariant.ControlFacts.{FactsAt}
use Rattle.nv_core.specs.invariant.InvariantLaws.{RunsAreSound}
use Rattle.nv_core.specs.steps.PassSteps.{tail_after}
use Rattle.nv_table.proofs.invariant.DrawnLaws.{calls_leave}
use Rattle.nv_core.proofs.invariant.CleanerLocks.{cleaner_op_is}
use Rattle.nv_table.specs.state.Opened.{Opened, mount_of}
use Rattle.nv_table.specs.state.States.{PassState}
use Rattle.nv_table.specs.state.Views.{PassView, pass_of, values_of}
use Rattle.nv_table.specs.steps.SeatSteps.{pass_worked}
use Rattle.nv_mirror.specs.PassSteps.{PassStep, HasMade, HasTaken, either_of}
use Rattle.nv_clean.specs.declared.batch.CleanControl.{CleanControl}
use Rattle.nv_clean.specs.declared.batch.CleanControl.TheVariants as cleans
use Rattle.nv_clean.specs.declared.batch.CleanRefusal.{CleanRefusal}
use Rattle.nv_clean.specs.declared.batch.CleanRefusal.TheVariants.{Idle as IdleRefusal, Busy, Stopped, RegionFault, StoreFault, NoMemory}
use Rattle.nv_clean.specs.Answers.{BegunFor, BeginsWith, IsTold, cleans_in, is_stop, refusal_in, refused_by, retired_by, retired_in, stops_in, tail_by, tail_in}
use Rattle.nv_clean.specs.Cleaning.{CleanState, IsBegun, IsEnd, IsOpen, IsPlain, IsUnderWay, calls_refusal, control_at, control_of, files_from, inner_at}
use Rattle.nv_clean.specs.CleanSteps.{HasMadeOne, is_fault, refusal_at, refusal_then}
use Rattle.nv_clean.specs.OwnSteps.{AreOwn, comes_in_batch, is_own}
use Rattle.nv_clean.proofs.AnswerLaws.{OpTold, amid, moves_at, op_told, shape, stops_at, tells_all, works_none}
use Rattle.nv_clean.proofs.StepLaws.{plain_at, plain_free}
use Rattle.nv_clean.proofs.TellLaws.{Amid, HasRetired, PendingAt, Tells, TellsAt, WasRefused, either_none, retired_at}
use Rattle.nv_clean.proofs.ToldLaws.{IsMid, IsMidOf, at_core, behind_said, by_core, is_made, mid_pass, none_due, said_behind, same_said, works_mid}

some_is : {T : Type 0} (one other : T) → Some one ≡ Some other → other ≡ one
some_is one other e = cc

no_value : {T : Type 0} (value : T) → None ≡ Some value → ⊥
no_value value e = cc

-- ---- one step of a batch that has begun and isn't over

module _ (sound : RunsAreSound) (tell : OwnEventsTell) (m : CleanState) (old new : PassState) (works : List Work) (op : CleanerOp) (found : ℕ)
    (taken : HasTaken record { opens = None; works = works; op = ByCleaner op; found = found } old new) (mount : IsMount (mount_of old.view.opened)) (steps : List PassStep) where
  abbrev pub step_sizes : Sizes
  step_sizes = taken.before.view.opened.sizes

  abbrev pub pass_mid : Pass
  pass_mid = mid_pass sound tell old new works op found taken mount

  -- where it stood behind its device calls, and what the step told
  pub record Known : Type 0 where
    pub inner : CleanerControl
    pub op_is : OpTold inner op
    pub pending : PendingAt inner (calls_refusal works)
    pub said : refusal_then step_sizes m (calls_refusal works) found ≡ either_of m.refusal (refused_by step_sizes (cleans_in steps) (tail_in steps) works (ByCleaner op) found)
    pub count : (n : ℕ) → either_of (retired_in steps) (retired_by (ByCleaner op) (tail_in steps)) ≡ Some n → IsEnd m.control × (n ≡ m.batch.reached - m.batch.tail)
    pub moved : ((n : ℕ) → retired_in steps ≡ Some n → tail_in steps + n ≤ (pass_of taken.before.view).tail)
        → (n : ℕ) → either_of (retired_in steps) (retired_by (ByCleaner op) (tail_in steps)) ≡ Some n → tail_by (ByCleaner op) found (tail_in steps) + n ≤ tail_after pass_mid (ByCleaner op) found

  abbrev Counts : CleanControl → Type 0
  Counts control = (n : ℕ) → either_of (retired_in steps) (retired_by (ByCleaner op) (tail_in steps)) ≡ Some n → IsEnd control × (n ≡ m.batch.reached - m.batch.tail)

  none_counted : {T : Type 0} (n : ℕ) → retired_in steps ≡ None → retired_by (ByCleaner op) (tail_in steps) ≡ None → either_of (retired_in steps) (retired_by (ByCleaner op) (tail_in steps)) ≡ Some n → T
  none_counted n none unmoved is = absurd (no_value n (sym (ap₂ either_of none unmoved) ∙ is))

  one_counted : (n : ℕ) → retired_in steps ≡ Some (m.batch.reached - m.batch.tail) → either_of (retired_in steps) (retired_by (ByCleaner op) (tail_in steps)) ≡ Some n → n ≡ m.batch.reached - m.batch.tail
  one_counted n told is = some_is (m.batch.reached - m.batch.tail) n (sym (ap (λ o. either_of o (retired_by (ByCleaner op) (tail_in steps))) told) ∙ is)

  count_plain : (control : CleanControl) → IsPlain control → pass_mid.control ≡ Cleaning m.batch (inner_at step_sizes m.batch control) → TellsAt step_sizes m.batch (inner_at step_sizes m.batch control) steps → OpTold (inner_at step_sizes m.batch control) op → Counts control
  count_plain (cleans.GiveStore file) plain at t told n is = (tt, one_counted n t.0.retired_is is)
  count_plain cleans.GiveHeader plain at t told n is = (tt, one_counted n t.0.retired_is is)
  count_plain cleans.GiveCleaner plain at t told n is = (tt, one_counted n t.0.retired_is is)
  count_plain cleans.AdvanceTail plain at t told n is =
      let moves = cleaner_op_is (MoveTail m.batch.reached) op (by_core sound tell old new works op found taken mount m.batch AdvanceTail at) in (
        tt,
        some_is (m.batch.reached - m.batch.tail) n
            (ap (λ tail. Some (m.batch.reached - tail)) (sym t.0.tail_is) ∙ sym (ap₂ (λ o p. either_of o (retired_by (ByCleaner p) (tail_in steps))) t.0.retired_is moves) ∙ is),
      )
  count_plain cleans.Begin plain at t told n is = absurd plain
  count_plain (cleans.WriteBack i) plain at t told n is = absurd plain
  count_plain cleans.Retire plain at t told n is = absurd plain
  count_plain cleans.Over plain at t told n is = absurd plain
  count_plain control plain at t told n is = none_counted n t.0.retired_is (told.moves (tail_in steps) refl) is

  abbrev Moves : Type 0
  Moves = ((n : ℕ) → retired_in steps ≡ Some n → tail_in steps + n ≤ (pass_of taken.before.view).tail)
      → (n : ℕ) → either_of (retired_in steps) (retired_by (ByCleaner op) (tail_in steps)) ≡ Some n → tail_by (ByCleaner op) found (tail_in steps) + n ≤ tail_after pass_mid (ByCleaner op) found

  -- it gives a lock back, with TAIL moved
  gave_on : (cell : Word) → op ≡ cleaner.Give cell → retired_in steps ≡ Some (m.batch.reached - m.batch.tail) → Moves
  gave_on cell gives told before n is =
      let same = one_counted n told is in
      let old = before (m.batch.reached - m.batch.tail) told in
      let kept : pass_mid.tail ≡ (pass_of taken.before.view).tail = calls_leave (λ (p : Pass). p.tail) (λ sizes work p. refl) step_sizes taken.stepped.works (pass_of taken.before.view) in
      subst (λ o. tail_by (ByCleaner o) found (tail_in steps) + n ≤ tail_after pass_mid (ByCleaner o) found) (sym gives) (omega (arith, same, old, kept))

  moved_plain : (control : CleanControl) → IsPlain control → pass_mid.control ≡ Cleaning m.batch (inner_at step_sizes m.batch control) → TellsAt step_sizes m.batch (inner_at step_sizes m.batch control) steps → OpTold (inner_at step_sizes m.batch control) op → Moves
  moved_plain (cleans.GiveStore file) plain at t told before n is =
      gave_on (STORE file) (cleaner_op_is (cleaner.Give (STORE file)) op (by_core sound tell old new works op found taken mount m.batch (cleaner.GiveStores (file ∷ files_from step_sizes m.batch (file + 1))) at)) t.0.retired_is before n is
  moved_plain cleans.GiveHeader plain at t told before n is = gave_on HEADER (cleaner_op_is (cleaner.Give HEADER) op (by_core sound tell old new works op found taken mount m.batch cleaner.GiveHeader at)) t.0.retired_is before n is
  moved_plain cleans.GiveCleaner plain at t told before n is = gave_on CLEANER (cleaner_op_is (cleaner.Give CLEANER) op (by_core sound tell old new works op found taken mount m.batch cleaner.GiveCleaner at)) t.0.retired_is before n is
  moved_plain cleans.AdvanceTail plain at t told before n is =
      let moves = cleaner_op_is (MoveTail m.batch.reached) op (by_core sound tell old new works op found taken mount m.batch AdvanceTail at) in
      let made = is_made sound tell old new works op found taken mount in
      let more : m.batch.tail < m.batch.reached = subst (FactsAt step_sizes (made.core.passes taken.before.view.number)) (at_core sound tell old new works op found taken mount steps m.batch AdvanceTail at) (made.sound.control_facts taken.before.view.number).at in
      let same = (count_plain cleans.AdvanceTail plain at t told n is).1 in
      let tail = t.0.tail_is in
      subst (λ o. tail_by (ByCleaner o) found (tail_in steps) + n ≤ tail_after pass_mid (ByCleaner o) found) (sym moves) (omega (arith, more, same, tail))
  moved_plain cleans.Begin plain at t told before n is = absurd plain
  moved_plain (cleans.WriteBack i) plain at t told before n is = absurd plain
  moved_plain cleans.Retire plain at t told before n is = absurd plain
  moved_plain cleans.Over plain at t told before n is = absurd plain
  moved_plain control plain at t told before n is = none_counted n t.0.retired_is (told.moves (tail_in steps) refl) is

  mid_count : (inner : CleanerControl) → IsMid inner → (retired_at m.batch inner ≡ None) × (moves_at inner ≡ false)
  mid_count (cleaner.HoldEntry i) mid = (refl, refl)
  mid_count (cleaner.ReadPiece i) mid = (refl, refl)
  mid_count (WriteBack i) mid = (refl, refl)
  mid_count (CleanEntry i) mid = (refl, refl)
  mid_count (SyncStores files) mid = (refl, refl)
  mid_count (MoveHeaderTail count) mid = (refl, refl)
  mid_count (FreeEntry number) mid = (refl, refl)
  mid_count (SetStop held) mid = (refl, refl)
  mid_count (RefusedReturnEntry i end) mid = (refl, refl)
  mid_count inner mid = absurd mid

  module _ (stands : (pass_of taken.before.view).control ≡ control_of step_sizes m) (t_all : Tells step_sizes (pass_of taken.before.view).control steps) (same : m.refusal ≡ refusal_in step_sizes steps) where
    -- with no device call before it
    known_plain : (control : CleanControl) → m.control ≡ control → IsPlain control → Known
    known_plain control is plain = record {
      inner = inner;
      op_is = op_told step_sizes pass_mid.owned m.batch inner op (by_core sound tell old new works op found taken mount m.batch inner at);
      pending = pends;
      said = ap (λ w. refusal_then step_sizes m (calls_refusal w) found) none ∙ ap (λ c. refusal_at step_sizes m.batch m.refusal c found) is
          ∙ same_said sound tell old new works op found taken mount steps m.batch m.refusal control plain at told.0 none;
      count = λ n e. subst (λ c. IsEnd c × (n ≡ m.batch.reached - m.batch.tail)) (sym is)
          (count_plain control plain at told.0 (op_told step_sizes pass_mid.owned m.batch inner op (by_core sound tell old new works op found taken mount m.batch inner at)) n e);
      moved = moved_plain control plain at told.0 (op_told step_sizes pass_mid.owned m.batch inner op (by_core sound tell old new works op found taken mount m.batch inner at));
    }
      where
        inner : CleanerControl
        inner = inner_at step_sizes m.batch control

        stands_at : (pass_of taken.before.view).control ≡ control_at step_sizes m.batch control
        stands_at = stands ∙ ap (control_at step_sizes m.batch) is

        stepped_none : taken.stepped.works ≡ []
        stepped_none = none_due step_sizes taken.stepped.works (values_of taken.before.view) (pass_of taken.before.view) (control_at step_sizes m.batch control) stands_at
            (λ kept work due. plain_free step_sizes m.batch control plain step_sizes kept (pass_of taken.before.view) work due) taken.stepped.due

        none : works ≡ []
        none = sym taken.works_are ∙ stepped_none

        at : pass_mid.control ≡ Cleaning m.batch inner
        at = ap (λ w. (pass_worked step_sizes w (pass_of taken.before.view)).control) stepped_none ∙ stands_at ∙ plain_at step_sizes m.batch control plain

        told : TellsAt step_sizes m.batch inner steps × PendingAt inner None
        told = subst (λ c. Tells step_sizes c steps) (stands_at ∙ plain_at step_sizes m.batch control plain) t_all

        pends : PendingAt inner (calls_refusal works)
        pends = subst (λ w. PendingAt inner (calls_refusal w)) (sym none) told.1

    -- and behind some
    known_behind : IsMidOf m.batch (pass_of taken.before.view).control → ((calls : Option CleanRefusal) → refusal_then step_sizes m calls found ≡ said_behind sound tell old new works op found taken mount steps m.batch m.refusal calls) → Known
    known_behind mid_first noted = by_control pass_mid.control refl (works_mid m.batch step_sizes taken.stepped.works (pass_of taken.before.view) mid_first) (amid sound tell old new works op found taken mount steps t_all)
      where
        by_control : (control : Control) → pass_mid.control ≡ control → IsMidOf m.batch control → Amid step_sizes control steps (calls_refusal works) → Known
        by_control (Cleaning other inner) at mid told = record {
          inner = inner;
          op_is = op_is;
          pending = told.1;
          said = noted (calls_refusal works) ∙ behind_said sound tell old new works op found taken mount steps m.batch m.refusal inner here mid.1 t_here told.1 same;
          count = λ n e. none_counted n (t_here.0.retired_is ∙ (mid_count inner mid.1).0) (op_is.moves (tail_in steps) (mid_count inner mid.1).1) e;
          moved = λ before n e. none_counted n (t_here.0.retired_is ∙ (mid_count inner mid.1).0) (op_is.moves (tail_in steps) (mid_count inner mid.1).1) e;
        }
          where
            here : pass_mid.control ≡ Cleaning m.batch inner
            here = at ∙ ap (λ b. Cleaning b inner) mid.0

            t_here : TellsAt step_sizes m.batch inner steps
            t_here = subst (λ b. TellsAt step_sizes b inner steps) mid.0 told.0

            op_is : OpTold inner op
            op_is = op_told step_sizes pass_mid.owned m.batch inner op (by_core sound tell old new works op found taken mount m.batch inner here)
        by_control control at mid told = absurd mid

    syncs_mid : (files : List ℕ) → IsMidOf m.batch (syncing m.batch files)
    syncs_mid [] = (refl, tt)
    syncs_mid (file ∷ rest) = (refl, tt)

    noted_at : (control : CleanControl) → m.control ≡ control → ((was : Option CleanRefusal) → refusal_at step_sizes m.batch was control found ≡ was) → (calls : Option CleanRefusal)
        → refusal_then step_sizes m calls found ≡ said_behind sound tell old new works op found taken mount steps m.batch m.refusal calls
    noted_at control is silent None = ap (λ c. refusal_at step_sizes m.batch m.refusal c found) is ∙ silent m.refusal
    noted_at control is silent (Some RegionFault) = refl
    noted_at control is silent (Some StoreFault) = refl
    noted_at control is silent (Some NoMemory) = refl
    noted_at control is silent (Some Stopped) = refl
    noted_at control is silent (Some (IdleRefusal n)) = refl
    noted_at control is silent (Some (Busy n)) = refl

    pub known : (control : CleanControl) → m.control ≡ control → IsOpen control → IsBegun control → Known
    known cleans.Begin is unended begun = absurd begun
    known cleans.Over is unended begun = absurd unended
    known (cleans.WriteBack i) is unended begun = known_behind (subst (IsMidOf m.batch) (sym (stands ∙ ap (control_at step_sizes m.batch) is)) (refl, tt)) (noted_at (cleans.WriteBack i) is (λ was. refl))
    known cleans.Retire is unended begun =
        known_behind (subst (IsMidOf m.batch) (sym (stands ∙ ap (control_at step_sizes m.batch) is)) (syncs_mid (rising_files step_sizes m.batch))) (noted_at cleans.Retire is (λ was. refl))
    known control is unended begun = known_plain control is tt

-- ---- what is told goes on

or_swap : (one other : Bool) → (one || other) ≡ (other || one)
or_swap true true = refl
or_swap true false = refl
or_swap false true = refl
or_swap false false = refl

-- STOP is set where a device has failed
stop_pending : (inner : CleanerControl) (calls : Option CleanRefusal) → PendingAt inner calls → stops_at inner ≡ is_fault calls
stop_pending (SetStop held) calls pending = sym pending
stop_pending (RefusedReturnEntry zero end) calls pending = sym (ap is_fault (pending.0 refl))
stop_pending (RefusedReturnEntry (suc i) end) calls pending = sym (ap is_fault (pending.1 (λ e. absurd (cc))))
stop_pending inner calls pending = sym (ap is_fault pending)

begins_more : (most : ℕ) (step : PassStep) (steps : List PassStep) → BeginsWith most steps → BeginsWith most (step ∷ steps)
begins_more most step [] begins = absurd begins
begins_more most step (other ∷ earlier) begins = begins

begins_some : (most : ℕ) (steps : List PassStep) → BeginsWith most steps → steps ≡ [] → ⊥
begins_some most [] begins none = begins
begins_some most (step ∷ earlier) begins none = cc

own_behind : (steps : List PassStep) (op : CleanerOp) → (steps ≡ [] → ⊥) → comes_in_batch (ByCleaner op) ≡ true → is_own steps (ByCleaner op) ≡ true
own_behind [] op some comes = absurd (some refl)
own_behind (step ∷ earlier) op some comes = comes

module _ (most : ℕ) (m : CleanState) (steps : List PassStep) where
  begun_for : (control : CleanControl) → IsBegun control → BeginsWith most steps → BegunFor most m control steps
  begun_for cleans.Begin begun begins = absurd begun
  begun_for control begun begins = begins

module _ (sound : RunsAreSound) (tell : OwnEventsTell) (most : ℕ) (m next : CleanState) (start old new : PassState) (s : Sizes) (one : HasMadeOne s m next old new) (same : s ≡ start.view.opened.sizes) (mount : IsMount (mount_of start.view.opened))
    (way : IsUnderWay m start old) (way_new : IsUnderWay next start new) (begun : IsBegun next.control) (told : IsTold most m start old) where
  abbrev new_steps : List PassStep
  new_steps = one.step ∷ told.steps

  abbrev start_sizes : Sizes
  start_sizes = start.view.opened.sizes

  is_shape : one.step ≡ record { opens = None; works = one.step.works; op = ByCleaner one.op; found = one.step.found }
  is_shape = shape one.step one.op one.opens one.op_is

  abbrev taken_so : HasTaken (record { opens = None; works = one.step.works; op = ByCleaner one.op; found = one.step.found }) old new
  taken_so = subst (λ st. HasTaken st old new) is_shape one.taken

  abbrev sz : Sizes
  sz = taken_so.before.view.opened.sizes

  mount_old : IsMount (mount_of old.view.opened)
  mount_old = subst (λ (o : Opened). IsMount (mount_of o)) (sym way.called.mount) mount

  sz_is : sz ≡ start_sizes
  sz_is = ap (λ (v : PassView). v.opened.sizes) taken_so.between.view ∙ ap (λ (o : Opened). o.sizes) way.called.mount

  abbrev Says : (z : Sizes) → Option CleanRefusal
  Says z = refused_by z (cleans_in told.steps) (tail_in told.steps) one.step.works (ByCleaner one.op) one.step.found

  -- what is so behind one more step, whatever came before
  module _ (own : is_own told.steps one.step.op ≡ true) (begins : BeginsWith most new_steps) (said : refusal_then sz m (calls_refusal one.step.works) one.step.found ≡ either_of m.refusal (Says sz))
      (stops : is_stop (ByCleaner one.op) ≡ is_fault (calls_refusal one.step.works))
      (count : (n : ℕ) → either_of (retired_in told.steps) (retired_by (ByCleaner one.op) (tail_in told.steps)) ≡ Some n → IsEnd m.control × (n ≡ m.batch.reached - m.batch.tail))
      (moved : (n : ℕ) → either_of (retired_in told.steps) (retired_by (ByCleaner one.op) (tail_in told.steps)) ≡ Some n → tail_by (ByCleaner one.op) one.step.found (tail_in told.steps) + n ≤ (pass_of new.view).tail) where
    refused_then : next.refusal ≡ refusal_in start_sizes new_steps
    refused_then =
        one.refusal ∙ ap (λ z. refusal_then z m (calls_refusal one.step.works) one.step.found) (same ∙ sym sz_is) ∙ said ∙ ap (λ r. either_of r (Says sz)) told.refused
        ∙ ap (λ z. either_of (refusal_in start_sizes told.steps) (Says z)) sz_is
        ∙ ap (λ o. either_of (refusal_in start_sizes told.steps) (refused_by start_sizes (cleans_in told.steps) (tail_in told.steps) one.step.works o one.step.found)) (sym one.op_is)

    stops_then : stops_in new_steps ≡ is_fault next.refusal
    stops_then =
        ap (λ o. is_stop o || stops_in told.steps) one.op_is ∙ ap₂ (λ a b. a || b) stops told.stops ∙ or_swap (is_fault (calls_refusal one.step.works)) (is_fault m.refusal) ∙ sym one.fault

    all_made : HasMade new_steps start new
    all_made = (old, told.made, one.taken)

    all_own : AreOwn new_steps
    all_own = (one.opens, own, told.own)

    tells_new : Tells start_sizes (pass_of new.view).control new_steps
    tells_new = tells_all sound tell start mount way.called.idle.control new_steps new all_made all_own (begins_some most new_steps begins)

    retired_then : next.control ≡ cleans.Over → next.refusal ≡ None → (retired_in new_steps ≡ Some (next.batch.reached - next.batch.tail)) × (next.batch.tail < next.batch.reached)
    retired_then over none = by_end (subst (λ c. Tells start_sizes c new_steps) (way_new.called.control_is ∙ ap (control_at new.view.opened.sizes next.batch) over) tells_new).0
      where
        by_end : WasRefused start_sizes new_steps ⊎ HasRetired start_sizes new_steps → (retired_in new_steps ≡ Some (next.batch.reached - next.batch.tail)) × (next.batch.tail < next.batch.reached)
        by_end (inl was) = let unrefused : is_some (refusal_in start_sizes new_steps) ≡ false = ap is_some (sym refused_then ∙ none) in let refused = was.0 in absurd (both (is_some (refusal_in start_sizes new_steps)) refused unrefused)
          where
            both : (b : Bool) → b ≡ true → b ≡ false → ⊥
            both b is is_not = cc
        by_end (inr had) =
            let counted = count had.count (ap (λ o. either_of (retired_in told.steps) (retired_by o (tail_in told.steps))) (sym one.op_is) ∙ had.told.1) in
            let batch = one.ends counted.0 in
            let some = had.some in
            let many = counted.1 in (
              had.told.1 ∙ ap Some many ∙ ap (λ (b : Batch). Some (b.reached - b.tail)) (sym batch),
              subst (λ (b : Batch). b.tail < b.reached) (sym batch) (omega (arith, some, many)),
            )

    goes_on_told : IsTold most next start new
    goes_on_told = record {
      steps = new_steps;
      made = all_made;
      own = all_own;
      begun = begun_for most next new_steps next.control begun begins;
      refused = refused_then;
      stops = stops_then;
      moved = λ n is. subst (λ o. tail_by o one.step.found (tail_in told.steps) + n ≤ (pass_of new.view).tail) (sym one.op_is) (moved n (ap (λ o. either_of (retired_in told.steps) (retired_by o (tail_in told.steps))) (sym one.op_is) ∙ is));
      retired = retired_then;
    }

  -- where it had begun
  begun_told : (control : CleanControl) → m.control ≡ control → IsOpen control → IsBegun control → BeginsWith most told.steps → IsTold most next start new
  begun_told control is unended begun_before begins =
      goes_on_told (ap (is_own told.steps) one.op_is ∙ own_behind told.steps one.op (begins_some most told.steps begins) k.op_is.own) (begins_more most one.step told.steps begins) k.said
      (k.op_is.stops ∙ stop_pending k.inner (calls_refusal one.step.works) k.pending) k.count
      (λ n is. subst (λ t. tail_by (ByCleaner one.op) one.step.found (tail_in told.steps) + n ≤ t) (sym (ap (λ (p : Pass). p.tail) taken_so.stepped.pass))
      (k.moved (λ n is. subst (λ (v : PassView). tail_in told.steps + n ≤ (pass_of v).tail) (sym taken_so.between.view) (told.moved n is)) n is))
    where
      t_all : Tells start_sizes (pass_of old.view).control told.steps
      t_all = tells_all sound tell start mount way.called.idle.control told.steps old told.made told.own (begins_some most told.steps begins)

      k : Known sound tell m old new one.step.works one.op one.step.found taken_so mount_old told.steps
      k = known sound tell m old new one.step.works one.op one.step.found taken_so mount_old told.steps
          (subst (λ (v : PassView). (pass_of v).control ≡ control_of v.opened.sizes m) (sym taken_so.between.view) way.called.control_is)
          (subst (λ (v : PassView). Tells v.opened.sizes (pass_of v).control told.steps) (sym taken_so.between.view)
          (subst (λ (o : Opened). Tells o.sizes (pass_of old.view).control told.steps) (sym way.called.mount) t_all))
          (told.refused ∙ ap (λ z. refusal_in z told.steps) (sym sz_is)) control is unended begun_before

  -- and with its first step
  first_told : m.control ≡ cleans.Begin → told.steps ≡ [] → m.batch.most ≡ most → IsTold most next start new
  first_told at none count =
      goes_on_told
      (ap₂ is_own none (one.op_is ∙ ap ByCleaner first))
      (subst (λ e. BeginsWith most (one.step ∷ e)) (sym none) (one.op_is ∙ ap ByCleaner (first ∙ ap TakeCleaner count)))
      (ap (λ w. refusal_then sz m (calls_refusal w) one.step.found) unworked ∙ ap (λ c. refusal_at sz m.batch m.refusal c one.step.found) at
      ∙ busy_first (one.step.found == 0) (m.batch.reached == m.batch.tail) m.refusal (Busy (place sz CLEANER)) (ap (λ (b : Batch). b.reached == b.tail) fresh.1)
      ∙ sym (ap (λ o. either_of m.refusal (refused_by sz (cleans_in told.steps) (tail_in told.steps) one.step.works (ByCleaner o) one.step.found)) first))
      (ap (λ o. is_stop (ByCleaner o)) first ∙ sym (ap (λ w. is_fault (calls_refusal w)) unworked))
      (λ n is. absurd (no_value n (sym (ap₂ (λ e o. either_of (retired_in e) (retired_by (ByCleaner o) (tail_in e))) none first) ∙ is)))
      (λ n is. absurd (no_value n (sym (ap₂ (λ e o. either_of (retired_in e) (retired_by (ByCleaner o) (tail_in e))) none first) ∙ is)))
    where
      first : one.op ≡ TakeCleaner m.batch.most
      first = one.begins at

      fresh : (m.owned ≡ []) × (m.batch ≡ new_batch m.batch.most) × (old ≡ start) × (m.refusal ≡ None)
      fresh = way.fresh at

      stands : (pass_of taken_so.before.view).control ≡ Idle
      stands = subst (λ (v : PassView). (pass_of v).control ≡ Idle) (sym taken_so.between.view) (way.called.control_is ∙ ap (control_at old.view.opened.sizes m.batch) at)

      unworked : one.step.works ≡ []
      unworked = sym taken_so.works_are ∙ works_none sound tell old new one.step.works one.op one.step.found taken_so mount_old stands

      busy_first : (f b : Bool) (was : Option CleanRefusal) (refusal : CleanRefusal) → b ≡ true → (if f then was else either_of was (if b then Some refusal else None)) ≡ either_of was (if f then None else Some refusal)
      busy_first true b was refusal e = sym (either_none was)
      busy_first false b was refusal e = ap (λ b. either_of was (if b then Some refusal else None)) e

  by_control : (control : CleanControl) → m.control ≡ control → IsOpen control → BegunFor most m control told.steps → IsTold most next start new
  by_control cleans.Begin is unended so = first_told is so.0 so.1
  by_control cleans.Over is unended so = absurd unended
  by_control control is unended so = begun_told control is unended tt so

  pub told_on : IsOpen m.control → IsTold most next start new
  told_on unended = by_control m.control refl unended told.begun
