-- Alone: a batch of pass 0 while no other pass is out.
use Rattle.std.proofs.Common.{◌≡◌, ◌⊎◌, ℕ, ◌+◌, ◌-◌, ◌<◌, ◌≤◌, ◌==◌, nat_lt, not, ◌&&◌, ◌||◌, Bool, true, false, if◌then◌else◌, List, [], ◌∷◌, length, inl, inr, refl, sym, ap, subst, ◌∙◌, arith, eq-eqb, eqb-true}
use Rattle.std.specs.Prelude.{Option, Some, None, Result, Ok, Err, is_ok}
use Rattle.std.proofs.lemmas.Bool.{and_parts, cases_lt, eqb-false, lt-ltb, ltb-true}
use Rattle.nv_core.specs.state.Words.{Sizes, Word, STOP, HEAD, TAIL, CLEANER, HEADER, STORE, ENTRY, CLEANUP, is_lock, is_shut, kind_of, place, ready, slot_of_entry}
use Rattle.nv_core.specs.state.Cleaner.{Batch, CleanerControl, TakeHeader, LoadTail, LoadHead, WriteBack, CleanEntry, SubtractDirty, RefusedReturnEntry, FailedReturnEntry, RefusedGiveCleanup, SyncStores, MoveHeaderTail, FreeEntry, AdvanceTail, GiveStores, GiveHeader, GiveCleaner, SetStop, CleanerOp, TakeCleaner, Clean, Subtract, Free, MoveTail}
use Rattle.nv_core.specs.state.Cleaner as cleaner
use Rattle.nv_core.specs.state.Core.{with_value}
use Rattle.nv_core.specs.state.Passes.{Control, Idle, Cleaning, IsFilling, IsHeldEntry, Pass, times}
use Rattle.nv_core.specs.state.Values.{CallEnding, Made, Failed, Refused}
use Rattle.nv_core.specs.steps.CleanerSteps.{after_cleaner_op, batch_with_page, claimed, cleaner_value, cleaner_word, closed, discharging, each_next, finishing, group_file, group_page, holds_store, may_pass, new_batch, next_cleaner_op, next_group, retreating, rising_files, surveyed, surveying, syncing, withdrawing}
use Rattle.nv_core.specs.steps.ControlSteps.{after_by_cleaner}
use Rattle.nv_core.specs.steps.Frames.{OwnEventsTell}
use Rattle.nv_core.specs.steps.Opening.{IsMount}
use Rattle.nv_core.specs.steps.Ops.{Op, ByCleaner, cleaner_move, moved}
use Rattle.nv_core.specs.steps.Order.{Values, Work, CallDue, CleanerCallDue, IsBatchEntry, next_step, step_at}
use Rattle.nv_core.specs.steps.StepKinds.{CleanerEnabled}
use Rattle.nv_core.specs.invariant.ControlFacts.{FactsAt}
use Rattle.nv_core.specs.invariant.InvariantLaws.{RunsAreSound}
use Rattle.nv_core.specs.invariant.LogWindow.{entry_word_at}
use Rattle.nv_core.specs.invariant.Ownership.{HoldsLocks}
use Rattle.nv_core.specs.log.Progress.{HasLoadedTail, IsBatchUnderWay}
use Rattle.nv_core.proofs.invariant.CleanerLocks.{cleaner_op_is}
use Rattle.nv_core.proofs.state.Changes.{differ, word_here}
use Rattle.nv_core.proofs.state.Choices.{if_both, not_both}
use Rattle.nv_core.proofs.steps.CleanerOps.{IsTending, tending}
use Rattle.nv_core.proofs.steps.WordLaws.{cleaner_op_touches}
use Rattle.nv_table.specs.invariant.BetweenSteps.{KnowsTaken}
use Rattle.nv_table.specs.passes.Alone.{IsAlone}
use Rattle.nv_table.specs.state.Opened.{Opened, mount_of, IsRunOf}
use Rattle.nv_table.specs.state.States.{PassState}
use Rattle.nv_table.specs.state.Views.{PassView, pass_of, values_of}
use Rattle.nv_table.specs.steps.SeatSteps.{AreDue, pass_worked}
use Rattle.nv_table.proofs.invariant.StepAt.{IsMadeAt}
use Rattle.nv_mount.specs.LoneWords.{word_then}
use Rattle.nv_mirror.specs.PassSteps.{PassStep, HasMade, HasTaken, either_of}
use Rattle.nv_clean.specs.declared.batch.CleanRefusal.{CleanRefusal}
use Rattle.nv_clean.specs.declared.batch.CleanRefusal.TheVariants as refusals
use Rattle.nv_clean.specs.declared.clean.Cleaned.{Cleaned}
use Rattle.nv_clean.specs.Alone.{BatchesAloneAreAnswered, IsCauseOf, retired_of}
use Rattle.nv_clean.specs.Answers.{IsCleanOver, answered_as, busy_at, cleans_in, is_retiring, is_stop, refusal_in, refused_by, retired_by, retired_in, retires_in, stops_in, tail_in, tells_fault, unless_cleaned}
use Rattle.nv_clean.specs.Cleaning.{call_refusal, calls_refusal}
use Rattle.nv_clean.specs.OwnSteps.{AreOwn, comes_in_batch, is_own}
use Rattle.nv_clean.proofs.AnswerLaws.{amid, first_is, made_opened, no_first, none_next, own_is, shape, tells_all, works_none}
use Rattle.nv_clean.proofs.LoneStepLaws.{alone_on, cleanup_once, found_open, is_ready_there, may, none_owns, not_shut, word_after, word_at, word_stays}
use Rattle.nv_clean.proofs.OverLaws.{begins_none}
use Rattle.nv_clean.proofs.TellLaws.{Amid, PendingAt, Tells, TellsAt, either_none, last_give}
use Rattle.nv_clean.proofs.ToldLaws.{IsMid, IsMidOf, at_core, by_core, is_made, mid_pass, one_step, works_mid}

-- ---- why it is refused, of a batch that began where STOP, TAIL and HEAD were so

-- STOP was 0, and the log not empty; and it has not set STOP
abbrev IsGoing : (stop tail head : ℕ) (set : Bool) → Type 0
IsGoing stop tail head set = (set ≡ false) × (stop ≡ 0) × (tail < head)

abbrev CauseOf : (stop tail head : ℕ) → Option CleanRefusal → Type 0
CauseOf stop tail head None = Unit {0}
CauseOf stop tail head (Some refusal) = IsCauseOf stop tail head (Err refusal)

module _ (stop tail head : ℕ) where
  either_cause : (one other : Option CleanRefusal) → CauseOf stop tail head one → CauseOf stop tail head other → CauseOf stop tail head (either_of one other)
  either_cause None other first second = second
  either_cause (Some refusal) other first second = first

  unless_cause : (cleaned : Bool) (refusal : Option CleanRefusal) → CauseOf stop tail head refusal → CauseOf stop tail head (unless_cleaned cleaned refusal)
  unless_cause true refusal cause = tt
  unless_cause false refusal cause = cause

  -- what came of device calls
  call_cause : (stop ≡ 0) × (tail < head) → (cell : Word) (ending : CallEnding) → CauseOf stop tail head (call_refusal cell ending)
  call_cause some cell Made = tt
  call_cause some cell Refused = some
  call_cause some (STORE file) (Failed came faults) = some
  call_cause some cell (Failed came faults) = some

  calls_cause : (stop ≡ 0) × (tail < head) → (works : List Work) → CauseOf stop tail head (calls_refusal works)
  calls_cause some [] = tt
  calls_cause some (work ∷ later) = either_cause (call_refusal work.cell work.ending) (calls_refusal later) (call_cause some work.cell work.ending) (calls_cause some later)

  busy_cause : (sizes : Sizes) (cell : Word) (found : ℕ) → found ≡ 0 → CauseOf stop tail head (busy_at sizes cell found)
  busy_cause sizes cell found none = subst (λ n. CauseOf stop tail head (if n == 0 then None else Some (refusals.Busy (place sizes cell)))) (sym none) tt

-- ---- where it stands

-- It goes on only past STOP that it found at 0, and past a log that isn't empty; and STORE is taken where the batch doesn't hold it.
abbrev StandsAt : Sizes → (stop tail head : ℕ) (set : Bool) → Control → Type 0
StandsAt sizes stop tail head set (Cleaning batch TakeHeader) = set ≡ false
StandsAt sizes stop tail head set (Cleaning batch cleaner.LoadStop) = set ≡ false
StandsAt sizes stop tail head set (Cleaning batch LoadTail) = (set ≡ false) × (stop ≡ 0)
StandsAt sizes stop tail head set (Cleaning batch LoadHead) = (set ≡ false) × (stop ≡ 0)
StandsAt sizes stop tail head set (Cleaning batch cleaner.TakeStore) = IsGoing stop tail head set × (holds_store batch (group_file sizes batch) ≡ false)
StandsAt sizes stop tail head set (Cleaning batch (FailedReturnEntry i end)) = Unit {0}
StandsAt sizes stop tail head set (Cleaning batch cleaner.GiveBack) = Unit {0}
StandsAt sizes stop tail head set (Cleaning batch inner) = IsGoing stop tail head set
StandsAt sizes stop tail head set Idle = Unit {0}
StandsAt sizes stop tail head set control = ⊥

module _ (sizes : Sizes) (stop tail head : ℕ) (set : Bool) where
  abbrev Stands : Control → Type 0
  Stands = StandsAt sizes stop tail head set

  abbrev Going : Type 0
  Going = IsGoing stop tail head set

  s_withdrawing : (owned : List Word) (batch : Batch) → Stands (withdrawing owned batch)
  s_withdrawing [] batch = tt
  s_withdrawing (cell ∷ rest) batch = tt

  s_syncing : (batch : Batch) (files : List ℕ) → Going → Stands (syncing batch files)
  s_syncing batch [] going = going
  s_syncing batch (file ∷ rest) going = going

  s_discharging : (batch : Batch) (files : List ℕ) → Going → Stands (discharging batch files)
  s_discharging batch [] going = going
  s_discharging batch (file ∷ rest) going = going

  s_finishing : (owned : List Word) (batch : Batch) → ((batch.reached == batch.tail) ≡ false → Going) → Stands (finishing sizes owned batch)
  s_finishing owned batch going =
      if_both Stands (batch.reached == batch.tail) (withdrawing owned (closed batch)) (syncing (closed batch) (rising_files sizes batch)) (λ e. s_withdrawing owned (closed batch)) (λ e. s_syncing (closed batch) (rising_files sizes batch) (going e))

  s_surveying : (owned : List Word) (batch : Batch) → (nat_lt batch.reached batch.head ≡ true → Going) → ((batch.reached == batch.tail) ≡ false → Going) → Stands (surveying sizes owned batch)
  s_surveying owned batch on going = if_both Stands (nat_lt batch.reached batch.head) (Cleaning batch (cleaner.LoadEntry 0)) (finishing sizes owned batch) (λ e. on e) (λ e. s_finishing owned batch going)

  s_retreating : (owned : List Word) (batch : Batch) (i : ℕ) → Going → Stands (retreating sizes owned batch i)
  s_retreating owned batch i going = if_both Stands (i == 0) (finishing sizes owned batch) (Cleaning batch (RefusedGiveCleanup (i - 1))) (λ e. s_finishing owned batch (λ later. going)) (λ e. going)

  s_each : (batch : Batch) (i : ℕ) (inner : CleanerControl) (last : Control) → Stands (Cleaning batch inner) → Stands last → Stands (each_next batch i inner last)
  s_each batch i inner last here there = if_both Stands (i + 1 == length batch.pages) last (Cleaning batch inner) (λ e. there) (λ e. here)

  s_claimed : (batch : Batch) → Going → Stands (claimed sizes batch)
  s_claimed batch going = if_both Stands (holds_store batch (group_file sizes batch)) (Cleaning batch (cleaner.HoldEntry 0)) (Cleaning batch cleaner.TakeStore) (λ e. going) (λ e. (going, e))

  s_surveyed : (batch : Batch) (i : ℕ) → Going → Stands (surveyed batch i)
  s_surveyed batch i going = if_both Stands (nat_lt (i + 1) batch.count) (Cleaning batch (cleaner.LoadEntry (i + 1))) (Cleaning batch (cleaner.TakeCleanup 0)) (λ e. going) (λ e. going)

  -- ---- device calls

  due_going : (values : Values) (batch : Batch) (work : Work) (inner : CleanerControl) → CleanerCallDue sizes values batch work inner → Stands (Cleaning batch inner) → Going × IsMid inner
  due_going values batch work (cleaner.ReadPiece i) due s = (s, tt)
  due_going values batch work (WriteBack i) due s = (s, tt)
  due_going values batch work (SyncStores (file ∷ rest)) due s = (s, tt)
  due_going values batch work (MoveHeaderTail count) due s = (s, tt)
  due_going values batch work inner due s = absurd due

  mid_inner : (batch : Batch) (inner : CleanerControl) → IsMid inner → Going → Stands (Cleaning batch inner)
  mid_inner batch (cleaner.HoldEntry i) mid going = going
  mid_inner batch (cleaner.ReadPiece i) mid going = going
  mid_inner batch (WriteBack i) mid going = going
  mid_inner batch (CleanEntry i) mid going = going
  mid_inner batch (SyncStores files) mid going = going
  mid_inner batch (MoveHeaderTail count) mid going = going
  mid_inner batch (FreeEntry number) mid going = going
  mid_inner batch (SetStop held) mid going = going
  mid_inner batch (RefusedReturnEntry i end) mid going = going
  mid_inner batch inner mid going = absurd mid

  mid_stands : (batch : Batch) (control : Control) → IsMidOf batch control → Going → Stands control
  mid_stands batch (Cleaning other inner) mid going = mid_inner other inner mid.1 going
  mid_stands batch control mid going = absurd mid

  works_stand : (works : List Work) (values : Values) (pass : Pass) (control : Control) → pass.control ≡ control → AreDue sizes values pass works → Stands control → Stands (pass_worked sizes works pass).control
  works_stand [] values pass control at due s = subst Stands (sym at) s
  works_stand (work ∷ later) values pass (Cleaning batch inner) at due s =
      let going = due_going values batch work inner (subst (CallDue sizes values pass work) at due.0.due) s in
      mid_stands batch (pass_worked sizes (work ∷ later) pass).control (works_mid batch sizes (work ∷ later) pass (subst (IsMidOf batch) (sym at) (refl, going.1))) going.0
  works_stand (work ∷ later) values pass Idle at due s = absurd (subst (CallDue sizes values pass work) at due.0.due)
  works_stand (work ∷ later) values pass control at due s = absurd s

-- how far TAIL was moved
abbrev moved_by : Option ℕ → ℕ
moved_by None = 0
moved_by (Some count) = count

-- ---- a step

module _ (sound : RunsAreSound) (tell : OwnEventsTell) (old new : PassState) (works : List Work) (op : CleanerOp) (found : ℕ)
    (taken : HasTaken record { opens = None; works = works; op = ByCleaner op; found = found } old new) (mount : IsMount (mount_of old.view.opened)) (knows : KnowsTaken old.view) (alone : IsAlone old.view)
    (steps : List PassStep) (stop tail head : ℕ) (stop_is : word_then old.view STOP ≡ (if stops_in steps then 1 else stop)) (tail_is : word_then old.view TAIL ≡ tail + moved_by (retired_in steps))
    (head_is : word_then old.view HEAD ≡ head) where
  abbrev sizes : Sizes
  sizes = taken.before.view.opened.sizes

  abbrev mid : Pass
  mid = mid_pass sound tell old new works op found taken mount

  abbrev made : IsMadeAt taken.before.view taken.stepped.steps.run taken.stepped.works None (ByCleaner op) found
  made = is_made sound tell old new works op found taken mount

  abbrev owned : List Word
  owned = moved (cleaner_move sizes op found) mid.owned

  at : (batch : Batch) (inner : CleanerControl) → mid.control ≡ Cleaning batch inner → (made.core.passes taken.before.view.number).control ≡ Cleaning batch inner
  at batch inner is = at_core sound tell old new works op found taken mount steps batch inner is

  locks_at : (control : Control) → (made.core.passes taken.before.view.number).control ≡ control → HoldsLocks sizes (made.core.passes taken.before.view.number) control
  locks_at control is = subst (HoldsLocks sizes (made.core.passes taken.before.view.number)) is (made.sound.ownership taken.before.view.number).locks

  open_lock : (cell : Word) → cleaner_word sizes op ≡ cell → is_lock cell ≡ true → times cell (made.core.passes taken.before.view.number).owned ≡ 0 → found ≡ 0
  open_lock cell on lock none = found_open sound tell old new works op found taken mount knows alone cell on lock none

  -- TAIL, where it is not moved yet
  tail_there : retired_in steps ≡ None → made.core.words TAIL ≡ tail
  tail_there none = word_at sound tell old new works op found taken mount knows alone TAIL ∙ tail_is ∙ ap (λ o. tail + moved_by o) none ∙ omega arith

  found_at : (word : Word) → cleaner_word sizes op ≡ word → found ≡ made.core.words word
  found_at word on = sym made.may.is ∙ ap made.core.words on

  head_there : made.core.words HEAD ≡ head
  head_there = word_at sound tell old new works op found taken mount knows alone HEAD ∙ head_is

  stop_there : stops_in steps ≡ false → made.core.words STOP ≡ stop
  stop_there unset = word_at sound tell old new works op found taken mount knows alone STOP ∙ stop_is ∙ ap (λ b. if b then 1 else stop) unset

  abbrev Then : CleanerOp → Control → Type 0
  Then one control =
      StandsAt sizes stop tail head (is_stop (ByCleaner one) || stops_in steps) control × CauseOf stop tail head (refused_by sizes (cleans_in steps) (tail_in steps) works (ByCleaner one) found)

  module _ (batch : Batch) where
    by_op : (inner : CleanerControl) (one : CleanerOp) → Some one ≡ Some op → Then one (after_cleaner_op sizes owned batch inner found) → Then op (after_cleaner_op sizes owned batch inner found)
    by_op inner one next is = subst (λ o. Then o (after_cleaner_op sizes owned batch inner found)) (sym (cleaner_op_is one op next)) is

    -- a lock that is the next to be taken is found open
    takes : (cell : Word) → Some (cleaner.Take cell) ≡ Some op → is_lock cell ≡ true → times cell (made.core.passes taken.before.view.number).owned ≡ 0 → found ≡ 0
    takes cell next lock none = open_lock cell (ap (cleaner_word sizes) (cleaner_op_is (cleaner.Take cell) op next)) lock none

    take_cause : (cell : Word) → found ≡ 0 → CauseOf stop tail head (unless_cleaned (cleans_in steps) (busy_at sizes cell found))
    take_cause cell none = unless_cause stop tail head (cleans_in steps) (busy_at sizes cell found) (busy_cause stop tail head sizes cell found none)

    abbrev next_at : (inner : CleanerControl) → mid.control ≡ Cleaning batch inner → next_cleaner_op sizes mid.owned batch inner ≡ Some op
    next_at inner is = by_core sound tell old new works op found taken mount batch inner is

    way : (inner : CleanerControl) → mid.control ≡ Cleaning batch inner → HasLoadedTail inner → IsBatchUnderWay sizes made.sound.grouped.log made.core batch inner
    way inner is loaded = made.sound.grouped.progress.each taken.before.view.number batch inner (at batch inner is) loaded

    on_word : (one : CleanerOp) → Some one ≡ Some op → found ≡ made.core.words (cleaner_word sizes one)
    on_word one next = found_at (cleaner_word sizes one) (ap (cleaner_word sizes) (cleaner_op_is one op next))

    -- ---- STOP, HEAD, and the entry at the tail

    stop_cause : Some (cleaner.Load STOP) ≡ Some op → stops_in steps ≡ false → CauseOf stop tail head (if found == 0 then None else Some refusals.Stopped)
    stop_cause next unset =
        let is = on_word (cleaner.Load STOP) next ∙ stop_there unset in
        let bit = made.sound.stop.bit in
        let there = stop_there unset in
        if_both (CauseOf stop tail head) (found == 0) None (Some refusals.Stopped) (λ e. tt) (λ e. let some = eqb-false found 0 e in omega (arith, is, bit, there, some))

    head_cause : (is : mid.control ≡ Cleaning batch LoadHead) → Some (cleaner.Load HEAD) ≡ Some op → TellsAt sizes batch LoadHead steps → stop ≡ 0
        → CauseOf stop tail head (if nat_lt (tail_in steps) found then None else Some (refusals.Idle (tail_in steps)))
    head_cause is next t none =
        if_both (CauseOf stop tail head) (nat_lt (tail_in steps) found) None (Some (refusals.Idle (tail_in steps))) (λ e. tt)
        (λ e. let high = not_less (tail_in steps) found e in (none, omega (arith, order, tail_same, high, head_same, tail_found, head_there), tail_same))
      where
        not_less : (one other : ℕ) → nat_lt one other ≡ false → other ≤ one
        not_less one other e = elim (cases_lt one other) [ inl less ↦ absurd (not_both (lt-ltb one other less) e) | inr least ↦ least ]

        tail_found : made.core.words TAIL ≡ tail
        tail_found = tail_there t.0.retired_is

        tail_same : tail_in steps ≡ tail
        tail_same = t.0.tail_is ∙ (way LoadHead is tt).tail ∙ tail_found

        head_same : found ≡ head
        head_same = on_word (cleaner.Load HEAD) next ∙ head_there

        order : made.core.words TAIL ≤ made.core.words HEAD
        order = made.sound.window.order

    head_going : (is : mid.control ≡ Cleaning batch LoadHead) → Some (cleaner.Load HEAD) ≡ Some op → TellsAt sizes batch LoadHead steps → (stops_in steps ≡ false) × (stop ≡ 0) → nat_lt batch.reached found ≡ true → IsGoing stop tail head (stops_in steps)
    head_going is next t s e =
        let less = ltb-true batch.reached found e in
        let first = t.1 in
        let tail_found : batch.tail ≡ tail = (way LoadHead is tt).tail ∙ tail_there t.0.retired_is in
        let head_same : found ≡ head = on_word (cleaner.Load HEAD) next ∙ head_there in
        (s.0, s.1, omega (arith, less, first, tail_found, head_same))

    module _ (i : ℕ) (is : mid.control ≡ Cleaning batch (cleaner.LoadEntry i)) (next : Some (cleaner.Load (ENTRY (slot_of_entry sizes (batch.reached + i)))) ≡ Some op) (t : TellsAt sizes batch (cleaner.LoadEntry i) steps)
        (going : IsGoing stop tail head (stops_in steps)) where
      abbrev here : CleanerControl
      here = cleaner.LoadEntry i

      tail_same : batch.tail ≡ tail
      tail_same = (way here is tt).tail ∙ tail_there t.0.retired_is

      unheld : (slot : ℕ) → is_shut (ENTRY slot) (made.core.words (ENTRY slot)) ≡ true → ⊥
      unheld slot = not_shut sound tell old new works op found taken mount knows alone (ENTRY slot)
          ((made.sound.ownership taken.before.view.number).none slot
          (λ n fills. absurd (subst (λ c. IsFilling c (made.core.passes taken.before.view.number).first (made.core.passes taken.before.view.number).entries n) (at batch here is) fills))
          (λ n holds. absurd (subst (λ c. IsHeldEntry c n) (at batch here is) holds)))

      -- while the batch has cleaned nothing
      tail_ready : batch.reached ≡ batch.tail → kind_of (entry_word_at sizes made.core batch.tail) ≡ ready
      tail_ready first =
          let low = (way here is tt).tail in
          let less = going.2 in
          is_ready_there sizes (mount_of taken.before.view.opened).values made.core made.sound taken.before.view.number batch here (at batch here is) tt unheld
          (λ cell n other. none_owns sound tell old new works op found taken mount knows alone cell n other) (stop_there going.0 ∙ going.1) batch.tail (omega (arith, low), omega (arith, tail_same, less, head_there))
          (λ was. let high = was.1 in omega (arith, high, first)) (λ was. was)

      entry_cause : (cleaned : Bool) → cleans_in steps ≡ cleaned
          → CauseOf stop tail head (unless_cleaned cleaned (if slot_of_entry sizes (batch.reached + i) == slot_of_entry sizes (tail_in steps) && not (kind_of found == ready) then Some (refusals.Idle (tail_in steps)) else None))
      entry_cause true so = tt
      entry_cause false so =
          if_both (CauseOf stop tail head) (slot_of_entry sizes (batch.reached + i) == slot_of_entry sizes (tail_in steps) && not (kind_of found == ready)) (Some (refusals.Idle (tail_in steps))) None
          (λ e. let both = and_parts (slot_of_entry sizes (batch.reached + i) == slot_of_entry sizes (tail_in steps)) (not (kind_of found == ready)) e in absurd (not_ready (eqb-true _ _ both.0) both.1)) (λ e. tt)
        where
          not_false : (b : Bool) → not b ≡ false → b ≡ true
          not_false true e = refl
          not_false false e = absurd cc

          first : batch.reached ≡ batch.tail
          first = eqb-true batch.reached batch.tail (not_false (batch.reached == batch.tail) (sym t.0.cleaned_is ∙ so))

          not_ready : slot_of_entry sizes (batch.reached + i) ≡ slot_of_entry sizes (tail_in steps) → not (kind_of found == ready) ≡ true → ⊥
          not_ready same off =
              let is_found : found ≡ entry_word_at sizes made.core batch.tail =
              on_word (cleaner.Load (ENTRY (slot_of_entry sizes (batch.reached + i)))) next ∙ ap (λ slot. made.core.words (ENTRY slot)) same ∙ ap (λ n. entry_word_at sizes made.core n) t.0.tail_is in
              not_both (eq-eqb (kind_of found) ready (ap kind_of is_found ∙ tail_ready first)) (not_true (kind_of found == ready) off)
            where
              not_true : (b : Bool) → not b ≡ true → b ≡ false
              not_true true e = absurd cc
              not_true false e = refl

    -- ---- each step

    abbrev Sets : (set : Bool) → Control → Type 0
    Sets set control = StandsAt sizes stop tail head set control

    abbrev Said : CleanerControl → Type 0
    Said inner = Then op (after_cleaner_op sizes owned batch inner found)

    steps_on : (inner : CleanerControl) → mid.control ≡ Cleaning batch inner → TellsAt sizes batch inner steps → PendingAt inner (calls_refusal works) → StandsAt sizes stop tail head (stops_in steps) (Cleaning batch inner) → Said inner
    steps_on TakeHeader is t pending s =
        let next = next_at TakeHeader is in
        by_op TakeHeader (cleaner.Take HEADER) next (
          if_both (Sets (stops_in steps)) (found == 0) (Cleaning batch cleaner.LoadStop) (withdrawing owned batch) (λ e. s) (λ e. s_withdrawing sizes stop tail head (stops_in steps) owned batch),
          take_cause HEADER (takes HEADER next refl (locks_at (Cleaning batch TakeHeader) (at batch TakeHeader is) HEADER (λ slot. differ HEADER (ENTRY slot) refl))),
        )
    steps_on cleaner.LoadStop is t pending s =
        let next = next_at cleaner.LoadStop is in
        let same = on_word (cleaner.Load STOP) next ∙ stop_there s in
        by_op cleaner.LoadStop (cleaner.Load STOP) next (
          if_both (Sets (stops_in steps)) (found == 0) (Cleaning batch LoadTail) (withdrawing owned batch) (λ e. let none = eqb-true found 0 e in (s, omega (arith, none, same))) (λ e. s_withdrawing sizes stop tail head (stops_in steps) owned batch),
          stop_cause next s,
        )
    steps_on LoadTail is t pending s = by_op LoadTail (cleaner.Load TAIL) (next_at LoadTail is) (s, tt)
    steps_on LoadHead is t pending s =
        let next = next_at LoadHead is in
        let first = t.1 in
        by_op LoadHead (cleaner.Load HEAD) next
        (s_surveying sizes stop tail head (stops_in steps) owned (record batch { head = found }) (head_going is next t s) (λ later. absurd (not_both (eq-eqb batch.reached batch.tail first) later)), head_cause is next t s.1)
    steps_on (cleaner.LoadEntry i) is t pending s =
        let next = next_at (cleaner.LoadEntry i) is in
        by_op (cleaner.LoadEntry i) (cleaner.Load (ENTRY (slot_of_entry sizes (batch.reached + i)))) next (
          if_both (Sets (stops_in steps)) (i == 0 && not (may_pass batch found)) (finishing sizes owned batch) (surveyed (batch_with_page batch i found) i)
              (λ e. s_finishing sizes stop tail head (stops_in steps) owned batch (λ later. s)) (λ e. s_surveyed sizes stop tail head (stops_in steps) (batch_with_page batch i found) i s),
          entry_cause i is next t s (cleans_in steps) refl,
        )
    steps_on (cleaner.TakeCleanup i) is t pending s =
        let next = next_at (cleaner.TakeCleanup i) is in
        let there = at batch (cleaner.TakeCleanup i) is in
        let within = subst (FactsAt sizes (made.core.passes taken.before.view.number)) there (made.sound.control_facts taken.before.view.number).at in
        let cell = CLEANUP (group_page batch i) in
        by_op (cleaner.TakeCleanup i) (cleaner.Take cell) next (
          if_both (Sets (stops_in steps)) (found == 0) (each_next batch i (cleaner.TakeCleanup (i + 1)) (claimed sizes batch)) (retreating sizes owned batch i)
              (λ e. s_each sizes stop tail head (stops_in steps) batch i (cleaner.TakeCleanup (i + 1)) (claimed sizes batch) s (s_claimed sizes stop tail head (stops_in steps) batch s)) (λ e. s_retreating sizes stop tail head (stops_in steps) owned batch i s),
          take_cause cell (takes cell next refl
              (locks_at (Cleaning batch (cleaner.TakeCleanup i)) there cell (λ slot. differ cell (ENTRY slot) refl)
              ∙ cleanup_once sizes (mount_of taken.before.view.opened).values made.core made.sound taken.before.view.number batch (cleaner.TakeCleanup i) there tt tt i within)),
        )
    steps_on cleaner.TakeStore is t pending s =
        let next = next_at cleaner.TakeStore is in
        let cell = STORE (group_file sizes batch) in
        by_op cleaner.TakeStore (cleaner.Take cell) next (
          if_both (Sets (stops_in steps)) (found == 0) (Cleaning (record batch { files = group_file sizes batch ∷ batch.files }) (cleaner.HoldEntry 0)) (retreating sizes owned batch (length batch.pages))
              (λ e. s.0) (λ e. s_retreating sizes stop tail head (stops_in steps) owned batch (length batch.pages) s.0),
          take_cause cell (takes cell next refl (locks_at (Cleaning batch cleaner.TakeStore) (at batch cleaner.TakeStore is) cell (λ slot. differ cell (ENTRY slot) refl) ∙ ap (λ b. if b then 1 else 0) s.1)),
        )
    steps_on (cleaner.HoldEntry i) is t pending s = by_op (cleaner.HoldEntry i) (cleaner.Hold (batch.reached + i)) (next_at (cleaner.HoldEntry i) is) (s, tt)
    steps_on (CleanEntry i) is t pending s =
        by_op (CleanEntry i) (Clean (batch.reached + i)) (next_at (CleanEntry i) is) (s_each sizes stop tail head (stops_in steps) batch i (CleanEntry (i + 1)) (Cleaning batch (SubtractDirty 0)) s s, tt)
    steps_on (SubtractDirty i) is t pending s =
        by_op (SubtractDirty i) (Subtract (group_page batch i)) (next_at (SubtractDirty i) is) (s_each sizes stop tail head (stops_in steps) batch i (SubtractDirty (i + 1)) (Cleaning batch (cleaner.GiveCleanup 0)) s s, tt)
    steps_on (cleaner.GiveCleanup i) is t pending s =
        by_op (cleaner.GiveCleanup i) (cleaner.Give (CLEANUP (group_page batch i))) (next_at (cleaner.GiveCleanup i) is)
        (s_each sizes stop tail head (stops_in steps) batch i (cleaner.GiveCleanup (i + 1)) (surveying sizes owned (next_group batch)) s (s_surveying sizes stop tail head (stops_in steps) owned (next_group batch) (λ e. s) (λ e. s)), tt)
    steps_on (RefusedReturnEntry i end) is t pending s =
        by_op (RefusedReturnEntry i end) (cleaner.Return (batch.reached + i)) (next_at (RefusedReturnEntry i end) is) (
          if_both (Sets (stops_in steps)) (i + 1 == end) (retreating sizes owned batch (length batch.pages)) (Cleaning batch (RefusedReturnEntry (i + 1) end))
              (λ e. s_retreating sizes stop tail head (stops_in steps) owned batch (length batch.pages) s) (λ e. s),
          unless_cause stop tail head (cleans_in steps) (calls_refusal works) (calls_cause stop tail head (s.1, s.2) works),
        )
    steps_on (FailedReturnEntry i end) is t pending s =
        by_op (FailedReturnEntry i end) (cleaner.Return (batch.reached + i)) (next_at (FailedReturnEntry i end) is) (
          if_both (Sets (stops_in steps)) (i + 1 == end) (withdrawing owned batch) (Cleaning batch (FailedReturnEntry (i + 1) end)) (λ e. s_withdrawing sizes stop tail head (stops_in steps) owned batch) (λ e. tt),
          unless_cause stop tail head (cleans_in steps) (calls_refusal works) (subst (CauseOf stop tail head) (sym pending) tt),
        )
    steps_on (RefusedGiveCleanup i) is t pending s =
        by_op (RefusedGiveCleanup i) (cleaner.Give (CLEANUP (group_page batch i))) (next_at (RefusedGiveCleanup i) is) (s_retreating sizes stop tail head (stops_in steps) owned batch i s, tt)
    steps_on (FreeEntry number) is t pending s =
        by_op (FreeEntry number) (Free number) (next_at (FreeEntry number) is)
        (if_both (Sets (stops_in steps)) (number + 1 == batch.reached) (Cleaning batch AdvanceTail) (Cleaning batch (FreeEntry (number + 1))) (λ e. s) (λ e. s), tt)
    steps_on AdvanceTail is t pending s =
        by_op AdvanceTail (MoveTail batch.reached) (next_at AdvanceTail is) (s_discharging sizes stop tail head (stops_in steps) batch (rising_files sizes batch) s, tt)
    steps_on (GiveStores []) is t pending s = let none = next_at (GiveStores []) is in absurd cc
    steps_on (GiveStores (file ∷ rest)) is t pending s =
        by_op (GiveStores (file ∷ rest)) (cleaner.Give (STORE file)) (next_at (GiveStores (file ∷ rest)) is) (s_discharging sizes stop tail head (stops_in steps) batch rest s, tt)
    steps_on GiveHeader is t pending s = by_op GiveHeader (cleaner.Give HEADER) (next_at GiveHeader is) (s, tt)
    steps_on GiveCleaner is t pending s = by_op GiveCleaner (cleaner.Give CLEANER) (next_at GiveCleaner is) (tt, tt)
    steps_on (SetStop count) is t pending s =
        by_op (SetStop count) cleaner.Stop (next_at (SetStop count) is)
        (if_both (Sets true) (count == 0) (withdrawing owned batch) (Cleaning batch (FailedReturnEntry 0 count)) (λ e. s_withdrawing sizes stop tail head true owned batch) (λ e. tt), calls_cause stop tail head (s.1, s.2) works)
    steps_on cleaner.GiveBack is t pending s =
        let gave = last_give mid.owned op (next_at cleaner.GiveBack is) in
        by_op cleaner.GiveBack (cleaner.Give gave.0) (ap Some (sym gave.1)) (s_withdrawing sizes stop tail head (stops_in steps) owned batch, tt)
    steps_on (cleaner.ReadPiece i) is t pending s = let none = next_at (cleaner.ReadPiece i) is in absurd cc
    steps_on (WriteBack i) is t pending s = let none = next_at (WriteBack i) is in absurd cc
    steps_on (SyncStores files) is t pending s = let none = next_at (SyncStores files) is in absurd cc
    steps_on (MoveHeaderTail count) is t pending s = let none = next_at (MoveHeaderTail count) is in absurd cc

  -- where it stands then, and why it is refused
  abbrev Next : Type 0
  Next = StandsAt sizes stop tail head (stops_in (one_step sound tell old new works op found taken mount ∷ steps)) (pass_of new.view).control
      × CauseOf stop tail head (refused_by sizes (cleans_in steps) (tail_in steps) works (ByCleaner op) found)

  control_by : (control : Control) → mid.control ≡ control → (pass_of new.view).control ≡ after_by_cleaner sizes owned op found control
  control_by control is = ap (λ (p : Pass). p.control) taken.stepped.pass ∙ ap (after_by_cleaner sizes owned op found) is

  next_any : comes_in_batch (ByCleaner op) ≡ true → (control : Control) → mid.control ≡ control → Amid sizes control steps (calls_refusal works) → StandsAt sizes stop tail head (stops_in steps) control → Next
  next_any own (Cleaning batch inner) is t s =
      let so = steps_on batch inner is t.0 t.1 s in
      (subst (StandsAt sizes stop tail head (is_stop (ByCleaner op) || stops_in steps)) (sym (control_by (Cleaning batch inner) is)) so.0, so.1)
  next_any own Idle is t s =
      absurd (elim (subst (λ (p : Pass). (next_step sizes made.core.values p ≡ Some (ByCleaner op)) ⊎ IsBatchEntry (ByCleaner op) p.control) made.own made.may.may) [
        | inl next ↦ none_next (sym (ap (step_at sizes made.core.values mid) is) ∙ next)
        | inr entry ↦ no_first op own (subst (IsBatchEntry (ByCleaner op)) is entry)
      ])
  next_any own control is t s = absurd s

  next_stands : comes_in_batch (ByCleaner op) ≡ true → Tells sizes (pass_of taken.before.view).control steps → StandsAt sizes stop tail head (stops_in steps) (pass_of taken.before.view).control → Next
  next_stands own t s =
      next_any own mid.control refl (amid sound tell old new works op found taken mount steps t)
      (works_stand sizes stop tail head (stops_in steps) taken.stepped.works (values_of taken.before.view) (pass_of taken.before.view) (pass_of taken.before.view).control refl taken.stepped.due s)

  -- the first one
  first_stands : stops_in steps ≡ false → (pass_of taken.before.view).control ≡ Idle → (most : ℕ) → op ≡ TakeCleaner most → Next
  first_stands unset idle most first = (
    subst (StandsAt sizes stop tail head (is_stop (ByCleaner op) || stops_in steps)) (sym (control_by Idle mid_idle))
        (subst (λ o. StandsAt sizes stop tail head (is_stop (ByCleaner o) || stops_in steps) (after_by_cleaner sizes owned o found Idle)) (sym first)
        (if_both (StandsAt sizes stop tail head (stops_in steps)) (found == 0) (Cleaning (new_batch most) TakeHeader) Idle (λ e. unset) (λ e. tt))),
    subst (λ o. CauseOf stop tail head (refused_by sizes (cleans_in steps) (tail_in steps) works (ByCleaner o) found)) (sym first)
        (busy_cause stop tail head sizes CLEANER found
        (open_lock CLEANER (ap (cleaner_word sizes) first) refl (locks_at Idle (ap (λ (p : Pass). p.control) made.own ∙ mid_idle) CLEANER (λ slot. differ CLEANER (ENTRY slot) refl)))),
  )
    where
      mid_idle : mid.control ≡ Idle
      mid_idle = ap (λ w. (pass_worked sizes w (pass_of taken.before.view)).control) (works_none sound tell old new works op found taken mount idle) ∙ idle

  -- ---- the words behind it

  stop_then : (one : CleanerOp) → op ≡ one → word_then new.view STOP ≡ (if is_stop (ByCleaner one) || stops_in steps then 1 else stop)
  stop_then cleaner.Stop is =
      word_after sound tell old new works op found taken mount knows alone STOP ∙ ap (λ o. with_value made.core.words (cleaner_word sizes o) (cleaner_value o found) STOP) is ∙ word_here made.core.words STOP 1
  stop_then one is = word_stays sound tell old new works op found taken mount knows alone STOP (ap (cleaner_op_touches STOP) is) ∙ stop_is

  head_then : word_then new.view HEAD ≡ head
  head_then = word_stays sound tell old new works op found taken mount knows alone HEAD refl ∙ head_is

  -- where TAIL is moved, by the end of what was cleaned
  module _ (to : ℕ) (is : op ≡ MoveTail to) (t : Amid sizes mid.control steps (calls_refusal works)) (s : StandsAt sizes stop tail head (stops_in steps) mid.control) where
    tends : IsTending (made.core.passes taken.before.view.number) (MoveTail to)
    tends = tending sizes (made.core.passes taken.before.view.number) (MoveTail to) tt
        (subst (λ o. CleanerEnabled sizes (made.core.passes taken.before.view.number) o (made.core.passes taken.before.view.number).control) is (may sound tell old new works op found taken mount knows alone).may)

    mid_at : mid.control ≡ Cleaning tends.batch AdvanceTail
    mid_at = sym (ap (λ (p : Pass). p.control) made.own) ∙ tends.control ∙ ap (Cleaning tends.batch) tends.made.0

    told : TellsAt sizes tends.batch AdvanceTail steps
    told = (subst (λ c. Amid sizes c steps (calls_refusal works)) mid_at t).0

    abbrev batch_then : IsBatchUnderWay sizes made.sound.grouped.log made.core tends.batch AdvanceTail
    batch_then = way tends.batch AdvanceTail mid_at tt

    moved_tail : word_then new.view TAIL ≡ tail + moved_by (either_of (retired_in steps) (Some (to - tail_in steps)))
    moved_tail =
        let low = batch_then.low in
        let loaded = batch_then.tail in
        let there = tail_there told.0.retired_is in
        let to_is = tends.made.1 in
        let same = told.0.tail_is in
        let end : to ≡ tail + (to - tail_in steps) = omega (arith, low, loaded, there, to_is, same) in
        word_after sound tell old new works op found taken mount knows alone TAIL ∙ ap (λ o. with_value made.core.words (cleaner_word sizes o) (cleaner_value o found) TAIL) is ∙ word_here made.core.words TAIL to
        ∙ end ∙ sym (ap (λ o. tail + moved_by (either_of o (Some (to - tail_in steps)))) told.0.retired_is)

    moved_going : stop ≡ 0
    moved_going = (subst (StandsAt sizes stop tail head (stops_in steps)) mid_at s).1

  -- how far TAIL was moved, and that STOP was 0 then
  record HasMovedTail (retired : Option ℕ) : Type 0 where
    pub tail_now : word_then new.view TAIL ≡ tail + moved_by retired
    pub going : (count : ℕ) → retired ≡ Some count → stop ≡ 0

  tail_then : (one : CleanerOp) → op ≡ one → Amid sizes mid.control steps (calls_refusal works) → StandsAt sizes stop tail head (stops_in steps) mid.control → ((count : ℕ) → retired_in steps ≡ Some count → stop ≡ 0)
      → HasMovedTail (either_of (retired_in steps) (retired_by (ByCleaner one) (tail_in steps)))
  tail_then (MoveTail to) is t s before_going = record { tail_now = moved_tail to is t s; going = λ count e. moved_going to is t s }
  tail_then one is t s before_going = record {
    tail_now = word_stays sound tell old new works op found taken mount knows alone TAIL (ap (cleaner_op_touches TAIL) is) ∙ tail_is ∙ sym (ap (λ o. tail + moved_by o) (either_none (retired_in steps)));
    going = λ count e. before_going count (sym (either_none (retired_in steps)) ∙ e);
  }

  abbrev HasMoved : CleanerOp → Type 0
  HasMoved one = HasMovedTail (either_of (retired_in steps) (retired_by (ByCleaner one) (tail_in steps)))

  moved_then : Tells sizes (pass_of taken.before.view).control steps → StandsAt sizes stop tail head (stops_in steps) (pass_of taken.before.view).control → ((count : ℕ) → retired_in steps ≡ Some count → stop ≡ 0) → HasMoved op
  moved_then t s before_going =
      tail_then op refl (amid sound tell old new works op found taken mount steps t)
      (works_stand sizes stop tail head (stops_in steps) taken.stepped.works (values_of taken.before.view) (pass_of taken.before.view) (pass_of taken.before.view).control refl taken.stepped.due s) before_going

  -- the first step moves nothing
  moved_first : retired_in steps ≡ None → (most : ℕ) → op ≡ TakeCleaner most → HasMoved op
  moved_first none most first = record {
    tail_now = word_stays sound tell old new works op found taken mount knows alone TAIL (ap (cleaner_op_touches TAIL) first) ∙ tail_is
        ∙ sym (ap (λ o. tail + moved_by (either_of (retired_in steps) (retired_by (ByCleaner o) (tail_in steps)))) first ∙ ap (λ o. tail + moved_by o) (either_none (retired_in steps)));
    going = λ count e. absurd (none_next (sym (ap (λ o. either_of (retired_in steps) (retired_by (ByCleaner o) (tail_in steps))) first ∙ either_none (retired_in steps) ∙ none) ∙ e));
  }

-- ---- all steps of a batch

module _ (sound : RunsAreSound) (tell : OwnEventsTell) (start : PassState) (mount : IsMount (mount_of start.view.opened)) (knows : KnowsTaken start.view) (alone : IsAlone start.view) (idle : (pass_of start.view).control ≡ Idle) where
  abbrev first_sizes : Sizes
  first_sizes = start.view.opened.sizes

  abbrev stop : ℕ
  stop = word_then start.view STOP

  abbrev tail : ℕ
  tail = word_then start.view TAIL

  abbrev head : ℕ
  head = word_then start.view HEAD

  record Holds (now : PassState) (steps : List PassStep) : Type 0 where
    pub knows_still : KnowsTaken now.view
    pub alone_still : IsAlone now.view
    pub stop_now : word_then now.view STOP ≡ (if stops_in steps then 1 else stop)
    pub tail_now : word_then now.view TAIL ≡ tail + moved_by (retired_in steps)
    pub head_now : word_then now.view HEAD ≡ head
    pub going : (count : ℕ) → retired_in steps ≡ Some count → stop ≡ 0
    pub stands : StandsAt first_sizes stop tail head (stops_in steps) (pass_of now.view).control
    pub cause : CauseOf stop tail head (refusal_in first_sizes steps)

  none_yet : Holds start []
  none_yet = record {
    knows_still = knows;
    alone_still = alone;
    stop_now = refl;
    tail_now = omega arith;
    head_now = refl;
    going = λ count e. absurd cc;
    stands = subst (StandsAt first_sizes stop tail head false) (sym idle) tt;
    cause = tt;
  }

  -- one step more
  module _ (step : PassStep) (earlier : List PassStep) (old now : PassState) (so_far : HasMade earlier start old) (taken : HasTaken step old now) (op : CleanerOp)
      (is : step ≡ record { opens = None; works = step.works; op = ByCleaner op; found = step.found }) (was : Holds old earlier) where
    opened : old.view.opened ≡ start.view.opened
    opened = made_opened earlier start old so_far

    mount_old : IsMount (mount_of old.view.opened)
    mount_old = subst (λ (o : Opened). IsMount (mount_of o)) (sym opened) mount

    abbrev shaped : PassStep
    shaped = record { opens = None; works = step.works; op = ByCleaner op; found = step.found }

    abbrev taken_as : HasTaken shaped old now
    taken_as = subst (λ s. HasTaken s old now) is taken

    same_sizes : taken_as.before.view.opened.sizes ≡ first_sizes
    same_sizes = ap (λ (v : PassView). v.opened.sizes) taken_as.between.view ∙ ap (λ (o : Opened). o.sizes) opened

    -- as the step itself says it
    abbrev NextOf : Sizes → Type 0
    NextOf sizes = StandsAt sizes stop tail head (stops_in (shaped ∷ earlier)) (pass_of now.view).control × CauseOf stop tail head (refused_by sizes (cleans_in earlier) (tail_in earlier) step.works (ByCleaner op) step.found)

    holds_then : NextOf taken_as.before.view.opened.sizes → HasMoved sound tell old now step.works op step.found taken_as mount_old was.knows_still was.alone_still earlier stop tail head was.stop_now was.tail_now was.head_now op → Holds now (step ∷ earlier)
    holds_then next moved_so =
        let alone_then = alone_on sound tell old now step.works op step.found taken_as mount_old was.knows_still was.alone_still in
        let here = subst NextOf same_sizes next in
        subst (λ s. Holds now (s ∷ earlier)) (sym is) record {
          knows_still = alone_then.0;
          alone_still = alone_then.1;
          stop_now = stop_then sound tell old now step.works op step.found taken_as mount_old was.knows_still was.alone_still earlier stop tail head was.stop_now was.tail_now was.head_now op refl;
          tail_now = moved_so.tail_now;
          head_now = head_then sound tell old now step.works op step.found taken_as mount_old was.knows_still was.alone_still earlier stop tail head was.stop_now was.tail_now was.head_now;
          going = moved_so.going;
          stands = here.0;
          cause = either_cause stop tail head (refusal_in first_sizes earlier) (refused_by first_sizes (cleans_in earlier) (tail_in earlier) step.works (ByCleaner op) step.found) was.cause here.1;
        }

    stands_before : StandsAt taken_as.before.view.opened.sizes stop tail head (stops_in earlier) (pass_of taken_as.before.view).control
    stands_before =
        subst (λ (v : PassView). StandsAt v.opened.sizes stop tail head (stops_in earlier) (pass_of v).control) (sym taken_as.between.view)
        (subst (λ (o : Opened). StandsAt o.sizes stop tail head (stops_in earlier) (pass_of old.view).control) (sym opened) was.stands)

    on_next : comes_in_batch (ByCleaner op) ≡ true → Tells first_sizes (pass_of old.view).control earlier → Holds now (step ∷ earlier)
    on_next own t =
        holds_then (next_stands sound tell old now step.works op step.found taken_as mount_old was.knows_still was.alone_still earlier stop tail head was.stop_now was.tail_now was.head_now own told stands_before)
        (moved_then sound tell old now step.works op step.found taken_as mount_old was.knows_still was.alone_still earlier stop tail head was.stop_now was.tail_now was.head_now told stands_before was.going)
      where
        told : Tells taken_as.before.view.opened.sizes (pass_of taken_as.before.view).control earlier
        told =
            subst (λ (v : PassView). Tells v.opened.sizes (pass_of v).control earlier) (sym taken_as.between.view)
            (subst (λ (o : Opened). Tells o.sizes (pass_of old.view).control earlier) (sym opened) t)

    on_first : earlier ≡ [] → (pass_of old.view).control ≡ Idle → (most : ℕ) → op ≡ TakeCleaner most → Holds now (step ∷ earlier)
    on_first none at most first =
        holds_then
        (first_stands sound tell old now step.works op step.found taken_as mount_old was.knows_still was.alone_still earlier stop tail head was.stop_now was.tail_now was.head_now (ap stops_in none)
        (ap (λ (v : PassView). (pass_of v).control) taken_as.between.view ∙ at) most first)
        (moved_first sound tell old now step.works op step.found taken_as mount_old was.knows_still was.alone_still earlier stop tail head was.stop_now was.tail_now was.head_now (ap retired_in none) most first)

  holds_all : (steps : List PassStep) (now : PassState) → HasMade steps start now → AreOwn steps → Holds now steps
  holds_all [] now made own = subst (λ (p : PassState). Holds p []) (sym made) none_yet
  holds_all (step ∷ earlier) now made own =
      let op = own_is earlier step.op own.1 in
      let is = shape step op.0 own.0 op.1 in
      let was = holds_all earlier made.0 made.1 own.2 in
      by_earlier earlier refl op.0 is was (subst (λ o. is_own earlier o ≡ true) op.1 own.1)
    where
      not_empty : (other : PassStep) (rest : List PassStep) → other ∷ rest ≡ [] → ⊥
      not_empty other rest e = cc

      by_earlier : (rest : List PassStep) → earlier ≡ rest → (op : CleanerOp) → step ≡ record { opens = None; works = step.works; op = ByCleaner op; found = step.found } → Holds made.0 earlier → is_own earlier (ByCleaner op) ≡ true → Holds now (step ∷ earlier)
      by_earlier [] same op is was own_op =
          let first = first_is op (subst (λ e. is_own e (ByCleaner op) ≡ true) same own_op) in
          on_first step earlier made.0 now made.1 made.2 op is was same (ap (λ (p : PassState). (pass_of p.view).control) (subst (λ e. HasMade e start made.0) same made.1) ∙ idle) first.0 first.1
      by_earlier (other ∷ rest) same op is was own_op =
          on_next step earlier made.0 now made.1 made.2 op is was (subst (λ e. is_own e (ByCleaner op) ≡ true) same own_op)
          (tells_all sound tell start mount idle earlier made.0 made.1 own.2 (λ none. not_empty other rest (sym same ∙ none)))

-- ---- what it is answered

err_of : (refusal : Option CleanRefusal) (retired : Option ℕ) (why : CleanRefusal) → answered_as refusal retired ≡ Some (Err why) → refusal ≡ Some why
err_of (Some refusal) retired why e = cc
err_of None (Some count) why e = absurd cc
err_of None None why e = absurd cc

ok_of : (refusal : Option CleanRefusal) (retired : Option ℕ) (cleaned : Cleaned) → answered_as refusal retired ≡ Some (Ok cleaned) → retired ≡ Some cleaned.retired
ok_of (Some refusal) retired cleaned e = absurd cc
ok_of None (Some count) cleaned e = cc
ok_of None None cleaned e = absurd cc

both_false : (one other : Bool) → (one || other) ≡ false → (one ≡ false) × (other ≡ false)
both_false false other e = (refl, e)
both_false true other e = absurd cc

none_retired : (steps : List PassStep) → retires_in steps ≡ false → retired_in steps ≡ None
none_retired [] none = refl
none_retired (step ∷ earlier) none =
    let both = both_false (is_retiring step.op) (retires_in earlier) none in
    ap (λ o. either_of o (retired_by step.op (tail_in earlier))) (none_retired earlier both.1) ∙ by_op step.op both.0 (tail_in earlier)
  where
    by_op : (op : Op) → is_retiring op ≡ false → (tail : ℕ) → retired_by op tail ≡ None
    by_op (ByCleaner (MoveTail to)) off tail = absurd cc
    by_op op off tail = refl

last_run : (steps : List PassStep) (start now : PassState) → HasMade steps start now → (steps ≡ [] → ⊥) → IsRunOf now.view.opened now.view.run
last_run [] start now same some = absurd (some refl)
last_run (step ∷ earlier) start now steps_made some = let stepped = steps_made.2.stepped in subst (λ (v : PassView). IsRunOf v.opened v.run) (sym stepped.steps.is) stepped.steps.is_run

pub batches_alone_are_answered : RunsAreSound → OwnEventsTell → BatchesAloneAreAnswered
batches_alone_are_answered sound tell most start now result mount knows alone idle ended = record {
  cause = cause_is;
  stop = stop_now;
  tail = tail_now;
  head = all.head_now;
  knows = all.knows_still;
  alone = all.alone_still;
  emptied = λ at is.
      let empty = subst (IsCauseOf stop_first tail_first head_first) is cause_is in
      let same = empty.1 in
      record {
        owned = ended.idle.owned;
        taken = ended.idle.taken;
        none = tail_now ∙ ap (λ r. tail_first + retired_of r) is ∙ omega (arith, same) ∙ sym all.head_now;
        going = stop_now ∙ ap (λ r. if tells_fault r then 1 else stop_first) is ∙ empty.0;
      };
}
  where
    over : IsCleanOver most start now result
    over = ended.over

    stop_first : ℕ
    stop_first = word_then start.view STOP

    tail_first : ℕ
    tail_first = word_then start.view TAIL

    head_first : ℕ
    head_first = word_then start.view HEAD

    all : Holds sound tell start mount knows alone idle.control now over.steps
    all = holds_all sound tell start mount knows alone idle.control over.steps now over.made over.own

    stop_now : word_then now.view STOP ≡ (if tells_fault result then 1 else stop_first)
    stop_now = all.stop_now ∙ ap (λ b. if b then 1 else stop_first) over.stops

    retired_is : moved_by (retired_in over.steps) ≡ retired_of result
    retired_is = go result over.answer over.retires
      where
        go : (r : Result Cleaned CleanRefusal) → answered_as (refusal_in start.view.opened.sizes over.steps) (retired_in over.steps) ≡ Some r → retires_in over.steps ≡ is_ok r → moved_by (retired_in over.steps) ≡ retired_of r
        go (Ok cleaned) answer retires = ap moved_by (ok_of (refusal_in start.view.opened.sizes over.steps) (retired_in over.steps) cleaned answer)
        go (Err why) answer retires = ap moved_by (none_retired over.steps retires)

    tail_now : word_then now.view TAIL ≡ tail_first + retired_of result
    tail_now = all.tail_now ∙ ap (λ n. tail_first + n) retired_is

    order : word_then now.view TAIL ≤ word_then now.view HEAD
    order = (sound (mount_of now.view.opened) now.view.run (subst (λ (o : Opened). IsMount (mount_of o)) (sym (made_opened over.steps start now over.made)) mount)
        (last_run over.steps start now over.made (begins_none most over.steps over.begins))).window.order

    cause_is : IsCauseOf stop_first tail_first head_first result
    cause_is = go result over.answer tail_now
      where
        go : (r : Result Cleaned CleanRefusal) → answered_as (refusal_in start.view.opened.sizes over.steps) (retired_in over.steps) ≡ Some r → word_then now.view TAIL ≡ tail_first + retired_of r → IsCauseOf stop_first tail_first head_first r
        go (Ok cleaned) answer tail_is =
            let low = order in let head_is = all.head_now in
            (all.going cleaned.retired (ok_of (refusal_in start.view.opened.sizes over.steps) (retired_in over.steps) cleaned answer), omega (arith, low, tail_is, head_is))
        go (Err why) answer tail_is = subst (CauseOf stop_first tail_first head_first) (err_of (refusal_in start.view.opened.sizes over.steps) (retired_in over.steps) why answer) all.cause
