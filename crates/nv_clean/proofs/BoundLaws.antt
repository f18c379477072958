-- Bounds: what a batch retires keeps to its bound, but where that is its first group alone.
use Rattle.std.proofs.Common.{◌≡◌, ◌⊎◌, inl, inr, ℕ, zero, suc, ◌+◌, ◌-◌, ◌≤◌, ◌==◌, nat_lt, Bool, true, false, not, ◌&&◌, if◌then◌else◌, List, [], ◌∷◌, ◌++◌, length, refl, sym, ap, ap₂, subst, ◌∙◌, arith, eq-eqb, eqb-true, ne_eqb}
use Rattle.std.specs.Prelude.{Option, Some, None}
use Rattle.nv_header.specs.HeaderSteps.{tail_steps}
use Rattle.nv_core.specs.state.Words.{Sizes, Word, STOP, HEAD, TAIL, HEADER, CLEANER, STORE, ENTRY, CLEANUP, page_of, slot_of_entry}
use Rattle.nv_core.specs.state.Cleaner.{Batch, CleanerControl, TakeHeader, LoadTail, LoadHead, WriteBack, CleanEntry, SubtractDirty, RefusedReturnEntry, FailedReturnEntry, RefusedGiveCleanup, SyncStores, MoveHeaderTail, FreeEntry, AdvanceTail, GiveStores, GiveHeader, GiveCleaner, SetStop, CleanerOp, TakeCleaner, Clean, Subtract, Free, MoveTail}
use Rattle.nv_core.specs.state.Cleaner as cleaner
use Rattle.nv_core.specs.state.Core.{Core, control_worked, worked}
use Rattle.nv_core.specs.state.Passes.{Control, Idle, Cleaning, Pass}
use Rattle.nv_core.specs.state.Values.{CallEnding, Made, Failed, Refused}
use Rattle.nv_core.specs.steps.CleanerSteps.{after_cleaner_op, after_cleaner_work, batch_with_page, claimed, closed, count_of, discharging, each_next, finishing, group_file, group_page, holds_store, may_pass, new_batch, next_cleaner_op, next_group, retreating, rising_files, surveyed, surveying, syncing, withdrawing}
use Rattle.nv_core.specs.steps.ControlSteps.{after_by_cleaner}
use Rattle.nv_core.specs.steps.Frames.{OwnEventsTell}
use Rattle.nv_core.specs.steps.Opening.{IsMount}
use Rattle.nv_core.specs.steps.Ops.{Op, ByCleaner, cleaner_move, moved}
use Rattle.nv_core.specs.steps.Order.{Values, Work, IsBatchEntry, next_step, step_at}
use Rattle.nv_core.specs.invariant.InvariantLaws.{RunsAreSound}
use Rattle.nv_core.specs.invariant.Sound.{Sound}
use Rattle.nv_core.proofs.invariant.CleanerLocks.{cleaner_op_is}
use Rattle.nv_core.proofs.state.Choices.{if_both}
use Rattle.nv_table.specs.state.Opened.{Opened, mount_of}
use Rattle.nv_table.specs.state.States.{PassState}
use Rattle.nv_table.specs.state.Views.{PassView, pass_of}
use Rattle.nv_table.specs.steps.SeatSteps.{pass_worked}
use Rattle.nv_mirror.specs.PassSteps.{PassStep, HasMade, HasTaken, either_of}
use Rattle.nv_clean.specs.Answers.{BeginsWith, KeepsTo, cleans_in, count_in, retired_by, retired_in, tail_in}
use Rattle.nv_clean.specs.Cleaning.{calls_refusal}
use Rattle.nv_clean.specs.OwnSteps.{AreOwn, comes_in_batch}
use Rattle.nv_clean.proofs.AnswerLaws.{amid, made_opened, shape, tells_all, works_none}
use Rattle.nv_clean.proofs.MeasureLaws.{has_room}
use Rattle.nv_clean.proofs.TellLaws.{Amid, Tells, TellsAt, either_none, elsewhere, has_passed, last_give}
use Rattle.nv_clean.proofs.ToldLaws.{at_core, by_core, is_made, mid_pass, one_step}

-- ---- what is so by where it stands, where the first group has so many entries

-- what it has cleaned keeps to its bound, or is the first group
abbrev Passed : (most first : ℕ) → Batch → Type 0
Passed most first batch = (batch.reached ≤ batch.tail + most) ⊎ (batch.reached ≡ batch.tail + first)

-- and so will it with the group at hand
abbrev AtHand : (most first : ℕ) → Batch → Type 0
AtHand most first batch = Passed most first batch × (batch.reached ≡ batch.tail → batch.count ≡ first) × ((batch.reached ≡ batch.tail) ⊎ (batch.reached + batch.count ≤ batch.tail + most))

abbrev BoundAt : (most first : ℕ) → Batch → CleanerControl → Type 0
BoundAt most first batch TakeHeader = Unit {0}
BoundAt most first batch cleaner.LoadStop = Unit {0}
BoundAt most first batch LoadTail = Unit {0}
BoundAt most first batch LoadHead = Unit {0}
BoundAt most first batch (cleaner.LoadEntry zero) = Passed most first batch
BoundAt most first batch (cleaner.LoadEntry (suc i)) = AtHand most first batch
BoundAt most first batch (cleaner.TakeCleanup i) = AtHand most first batch
BoundAt most first batch cleaner.TakeStore = AtHand most first batch
BoundAt most first batch (cleaner.HoldEntry i) = AtHand most first batch
BoundAt most first batch (cleaner.ReadPiece i) = AtHand most first batch
BoundAt most first batch (WriteBack i) = AtHand most first batch
BoundAt most first batch (CleanEntry i) = AtHand most first batch
BoundAt most first batch (SubtractDirty i) = AtHand most first batch
BoundAt most first batch (cleaner.GiveCleanup i) = AtHand most first batch
BoundAt most first batch (FailedReturnEntry i end) = Unit {0}
BoundAt most first batch (SetStop held) = Unit {0}
BoundAt most first batch cleaner.GiveBack = Unit {0}
BoundAt most first batch inner = Passed most first batch

-- a batch that is over has kept to its bound
abbrev pub Bounded : Sizes → (most : ℕ) → Control → List PassStep → Type 0
Bounded sizes most (Cleaning batch inner) steps = (batch.most ≡ most) × BoundAt most (count_in sizes steps) batch inner
Bounded sizes most Idle steps = (count : ℕ) → retired_in steps ≡ Some count → KeepsTo most (count_in sizes steps) count
Bounded sizes most control steps = ⊥

-- ---- device calls

module _ (sizes : Sizes) (most : ℕ) (steps : List PassStep) where
  abbrev first : ℕ
  first = count_in sizes steps

  sync_on : (batch : Batch) (files : List ℕ) → batch.most ≡ most → Passed most first batch → Bounded sizes most (syncing batch files) steps
  sync_on batch [] is p = (is, p)
  sync_on batch (file ∷ rest) is p = (is, p)

  work_on : (batch : Batch) (ending : CallEnding) (inner : CleanerControl) → batch.most ≡ most → BoundAt most first batch inner → Bounded sizes most (after_cleaner_work batch ending inner) steps
  work_on batch Made (cleaner.ReadPiece i) is b = (is, b)
  work_on batch Made (WriteBack i) is b = if_both (λ c. Bounded sizes most c steps) (i + 1 == length batch.pages) (Cleaning batch (CleanEntry 0)) (Cleaning batch (cleaner.HoldEntry (i + 1))) (λ e. (is, b)) (λ e. (is, b))
  work_on batch Made (SyncStores (file ∷ rest)) is b = sync_on batch rest is b
  work_on batch Made (MoveHeaderTail calls) is b =
      if_both (λ c. Bounded sizes most c steps) (calls + 1 == length (tail_steps batch.reached)) (Cleaning batch (FreeEntry batch.tail)) (Cleaning batch (MoveHeaderTail (calls + 1))) (λ e. (is, b)) (λ e. (is, b))
  work_on batch Made inner is b = (is, b)
  work_on batch (Failed came faults) (cleaner.ReadPiece i) is b = (is, tt)
  work_on batch (Failed came faults) (WriteBack i) is b = (is, tt)
  work_on batch (Failed came faults) inner is b = (is, tt)
  work_on batch Refused (WriteBack i) is b = (is, b.0)
  work_on batch Refused inner is b = (is, b)

  calls_on : (pass : Pass) (ending : CallEnding) (control : Control) → Bounded sizes most control steps → Bounded sizes most (control_worked sizes pass ending control) steps
  calls_on pass Made (Cleaning batch inner) b = work_on batch Made inner b.0 b.1
  calls_on pass (Failed came faults) (Cleaning batch inner) b = work_on batch (Failed came faults) inner b.0 b.1
  calls_on pass Refused (Cleaning batch inner) b = work_on batch Refused inner b.0 b.1
  calls_on pass Made Idle b = b
  calls_on pass (Failed came faults) Idle b = b
  calls_on pass Refused Idle b = b
  calls_on pass ending control b = absurd b

  works_on : (works : List Work) (pass : Pass) → Bounded sizes most pass.control steps → Bounded sizes most (pass_worked sizes works pass).control steps
  works_on [] pass b = b
  works_on (work ∷ later) pass b = works_on later (worked sizes work pass) (calls_on pass work.ending pass.control b)

-- ---- where it goes on

none_some : {T : Type 0} {value : T} → None ≡ Some value → ⊥
none_some e = cc

module _ (sizes : Sizes) (most : ℕ) (steps : List PassStep) where
  abbrev now_first : ℕ
  now_first = count_in sizes steps

  withdraws_on : (owned : List Word) (batch : Batch) → batch.most ≡ most → retired_in steps ≡ None → Bounded sizes most (withdrawing owned batch) steps
  withdraws_on [] batch is none = λ count some. absurd (none_some (sym none ∙ some))
  withdraws_on (cell ∷ rest) batch is none = (is, tt)

  finishes_on : (owned : List Word) (batch : Batch) → batch.most ≡ most → Passed most now_first batch → retired_in steps ≡ None → Bounded sizes most (finishing sizes owned batch) steps
  finishes_on owned batch is p none = if_both (λ c. Bounded sizes most c steps) (batch.reached == batch.tail) (withdrawing owned (closed batch)) (syncing (closed batch) (rising_files sizes batch))
      (λ e. withdraws_on owned (closed batch) is none) (λ e. sync_on sizes most steps (closed batch) (rising_files sizes batch) is p)

  surveys_on : (owned : List Word) (batch : Batch) → batch.most ≡ most → Passed most now_first batch → retired_in steps ≡ None → Bounded sizes most (surveying sizes owned batch) steps
  surveys_on owned batch is p none = if_both (λ c. Bounded sizes most c steps) (nat_lt batch.reached batch.head) (Cleaning batch (cleaner.LoadEntry 0)) (finishing sizes owned batch) (λ e. (is, p)) (λ e. finishes_on owned batch is p none)

  retreats_on : (owned : List Word) (batch : Batch) (i : ℕ) → batch.most ≡ most → Passed most now_first batch → retired_in steps ≡ None → Bounded sizes most (retreating sizes owned batch i) steps
  retreats_on owned batch i is p none = if_both (λ c. Bounded sizes most c steps) (i == 0) (finishing sizes owned batch) (Cleaning batch (RefusedGiveCleanup (i - 1))) (λ e. finishes_on owned batch is p none) (λ e. (is, p))

  each_on : (batch : Batch) (i : ℕ) (inner : CleanerControl) (last : Control) → Bounded sizes most (Cleaning batch inner) steps → Bounded sizes most last steps → Bounded sizes most (each_next batch i inner last) steps
  each_on batch i inner last here there = if_both (λ c. Bounded sizes most c steps) (i + 1 == length batch.pages) last (Cleaning batch inner) (λ e. there) (λ e. here)

  discharges_on : (batch : Batch) (files : List ℕ) → batch.most ≡ most → Passed most now_first batch → Bounded sizes most (discharging batch files) steps
  discharges_on batch [] is p = (is, p)
  discharges_on batch (file ∷ rest) is p = (is, p)

  load_on : (batch : Batch) (i : ℕ) → batch.most ≡ most → AtHand most now_first batch → Bounded sizes most (Cleaning batch (cleaner.LoadEntry (i + 1))) steps
  load_on batch i is hand = (is, subst (λ n. BoundAt most now_first batch (cleaner.LoadEntry n)) (let e : suc i ≡ i + 1 = omega arith in e) hand)

-- ---- a step

the_count : Option ℕ → ℕ
the_count (Some count) = count
the_count None = 0

same_count : (one other : ℕ) → Some one ≡ Some other → one ≡ other
unfolding the_count
same_count one other e = ap the_count e

module _ (sizes : Sizes) (values : Values) (core : Core) (by : ℕ) (sound : Sound sizes values core) (batch : Batch) (steps : List PassStep) (works : List Work) (found : ℕ) (owned : List Word) (most : ℕ) (is : batch.most ≡ most) where
  abbrev Is : CleanerControl → Type 0
  Is inner = (core.passes by).control ≡ Cleaning batch inner

  abbrev step : CleanerOp → PassStep
  step op = record { opens = None; works = works; op = ByCleaner op; found = found }

  abbrev Then : Control → CleanerOp → Type 0
  Then control op = Bounded sizes most control (step op ∷ steps)

  abbrev Comes : CleanerControl → Type 0
  Comes inner = (op : CleanerOp) → next_cleaner_op sizes (core.passes by).owned batch inner ≡ Some op → Then (after_cleaner_op sizes owned batch inner found) op

  by_op : (inner : CleanerControl) (one : CleanerOp) → Then (after_cleaner_op sizes owned batch inner found) one → (op : CleanerOp) → Some one ≡ Some op → Then (after_cleaner_op sizes owned batch inner found) op
  by_op inner one b op next = subst (Then (after_cleaner_op sizes owned batch inner found)) (sym (cleaner_op_is one op next)) b

  -- nothing is retired by a step that moves no tail
  none_yet : (op : CleanerOp) → retired_by (ByCleaner op) (tail_in steps) ≡ None → retired_in steps ≡ None → retired_in (step op ∷ steps) ≡ None
  none_yet op same none = ap (either_of (retired_in steps)) same ∙ either_none (retired_in steps) ∙ none

  abbrev was_first : ℕ
  was_first = count_in sizes steps

  -- ENTRY of the leader of a group, or of a follower
  module _ (i : ℕ) where
    abbrev look : CleanerOp
    look = cleaner.Load (ENTRY (slot_of_entry sizes (batch.reached + i)))

    abbrev first_then : ℕ
    first_then = count_in sizes (step look ∷ steps)

    -- behind it
    looks_on : (passes : may_pass batch found ≡ true → AtHand most first_then (batch_with_page batch i found)) (follows : (i == 0) ≡ false → AtHand most first_then (batch_with_page batch i found)) (passed : Passed most first_then batch)
        → retired_in steps ≡ None → Then (if i == 0 && not (may_pass batch found) then finishing sizes owned batch else surveyed (batch_with_page batch i found) i) look
    looks_on passes follows passed none = go (i == 0) (may_pass batch found) refl refl
      where
        survey : AtHand most first_then (batch_with_page batch i found) → Then (surveyed (batch_with_page batch i found) i) look
        survey hand = if_both (λ c. Then c look) (nat_lt (i + 1) (batch_with_page batch i found).count) (Cleaning (batch_with_page batch i found) (cleaner.LoadEntry (i + 1))) (Cleaning (batch_with_page batch i found) (cleaner.TakeCleanup 0))
            (λ e. load_on sizes most (step look ∷ steps) (batch_with_page batch i found) i is hand) (λ e. (is, hand))

        go : (b c : Bool) → (i == 0) ≡ b → may_pass batch found ≡ c → Then (if b && not c then finishing sizes owned batch else surveyed (batch_with_page batch i found) i) look
        go true true e f = survey (passes f)
        go true false e f = finishes_on sizes most (step look ∷ steps) owned batch is passed (none_yet look refl none)
        go false c e f = survey (follows e)

  cleaned_first : (b : Bool) → (batch.reached == batch.tail) ≡ b → cleans_in steps ≡ has_passed batch → not (cleans_in steps) ≡ b
  cleaned_first b e c = ap not c ∙ ap (λ b. not (not b)) e ∙ twice b
    where
      twice : (b : Bool) → not (not b) ≡ b
      twice true = refl
      twice false = refl

  pub bounds_on : (inner : CleanerControl) → Is inner → TellsAt sizes batch inner steps → BoundAt most was_first batch inner → Comes inner
  bounds_on TakeHeader at t b op next =
      by_op TakeHeader (cleaner.Take HEADER)
      (if_both (λ c. Then c (cleaner.Take HEADER)) (found == 0) (Cleaning batch cleaner.LoadStop) (withdrawing owned batch) (λ e. (is, tt)) (λ e. withdraws_on sizes most (step (cleaner.Take HEADER) ∷ steps) owned batch is (none_yet (cleaner.Take HEADER) refl t.0.retired_is))) op next
  bounds_on cleaner.LoadStop at t b op next =
      by_op cleaner.LoadStop (cleaner.Load STOP)
      (if_both (λ c. Then c (cleaner.Load STOP)) (found == 0) (Cleaning batch LoadTail) (withdrawing owned batch) (λ e. (is, tt)) (λ e. withdraws_on sizes most (step (cleaner.Load STOP) ∷ steps) owned batch is (none_yet (cleaner.Load STOP) refl t.0.retired_is))) op next
  bounds_on LoadTail at t b op next = by_op LoadTail (cleaner.Load TAIL) (is, tt) op next
  bounds_on LoadHead at t b op next =
      let none = t.1 in
      by_op LoadHead (cleaner.Load HEAD) (surveys_on sizes most (step (cleaner.Load HEAD) ∷ steps) owned (record batch { head = found }) is (inl (omega (arith, none))) (none_yet (cleaner.Load HEAD) refl t.0.retired_is)) op next
  bounds_on (cleaner.LoadEntry zero) at t b op next = by_op (cleaner.LoadEntry zero) (look zero) (leads (batch.reached == batch.tail) refl) op next
    where
      leads : (first_group : Bool) → (batch.reached == batch.tail) ≡ first_group → Then (if zero == 0 && not (may_pass batch found) then finishing sizes owned batch else surveyed (batch_with_page batch zero found) zero) (look zero)
      leads true e =
          let start = eqb-true batch.reached batch.tail e in
          let here : (slot_of_entry sizes (batch.reached + zero) == slot_of_entry sizes (tail_in steps)) ≡ true = eq-eqb _ _ (ap (slot_of_entry sizes) (let n : batch.reached + zero ≡ batch.tail = omega (arith, start) in n ∙ sym t.0.tail_is)) in
          let counted : first_then zero ≡ count_of found = ap₂ (λ c h. if c && h then count_of found else was_first) (cleaned_first true e t.0.cleaned_is) here in
          looks_on zero (λ passes. (inl (omega (arith, start)), λ same. sym counted, inl start)) (λ some. absurd (cc)) (inl (omega (arith, start))) t.0.retired_is
      leads false e =
          let counted : was_first ≡ first_then zero = sym (ap (λ c. if c && slot_of_entry sizes (batch.reached + zero) == slot_of_entry sizes (tail_in steps) then count_of found else was_first) (cleaned_first false e t.0.cleaned_is)) in
          let passed : Passed most (first_then zero) batch = subst (λ n. Passed most n batch) counted b in
          looks_on zero (λ passes. (passed, λ same. absurd (not_both (eq-eqb batch.reached batch.tail same) e), room passes)) (λ some. absurd (cc)) passed t.0.retired_is
        where
          not_both : {b : Bool} → b ≡ true → b ≡ false → ⊥
          not_both is is_not = cc

          room : may_pass batch found ≡ true → (batch.reached ≡ batch.tail) ⊎ (batch.reached + count_of found ≤ batch.tail + most)
          room passes = subst (λ n. (batch.reached ≡ batch.tail) ⊎ (batch.reached + count_of found ≤ batch.tail + n)) is (has_room sizes batch found passes)
  bounds_on (cleaner.LoadEntry (suc i)) at t b op next = by_op (cleaner.LoadEntry (suc i)) (look (suc i)) (looks_on (suc i) (λ passes. hand) (λ some. hand) (subst (λ n. Passed most n batch) counted b.0) t.0.retired_is) op next
    where
      unchanged : (first_group : Bool) → (batch.reached == batch.tail) ≡ first_group → first_then (suc i) ≡ was_first
      unchanged true e =
          let start = eqb-true batch.reached batch.tail e in
          let far : (slot_of_entry sizes (batch.reached + suc i) == slot_of_entry sizes (tail_in steps)) ≡ false =
          ap (λ n. slot_of_entry sizes (batch.reached + suc i) == slot_of_entry sizes n) t.0.tail_is ∙ elsewhere sizes values core by sound batch steps None works found owned i at start in
          ap₂ (λ c h. if c && h then count_of found else was_first) (cleaned_first true e t.0.cleaned_is) far
      unchanged false e = ap (λ c. if c && slot_of_entry sizes (batch.reached + suc i) == slot_of_entry sizes (tail_in steps) then count_of found else was_first) (cleaned_first false e t.0.cleaned_is)

      counted : was_first ≡ first_then (suc i)
      counted = sym (unchanged (batch.reached == batch.tail) refl)

      hand : AtHand most (first_then (suc i)) (batch_with_page batch (suc i) found)
      hand =
          subst (λ n. AtHand most n (batch_with_page batch (suc i) found)) counted
          (subst (λ c. AtHand most was_first (record batch { count = if c then count_of found else batch.count; pages = batch.pages ++ page_of found ∷ [] })) (sym (ne_eqb (suc i) 0 (omega arith))) b)
  bounds_on (cleaner.TakeCleanup i) at t b op next =
      let take = cleaner.Take (CLEANUP (group_page batch i)) in
      by_op (cleaner.TakeCleanup i) take
      (if_both (λ c. Then c take) (found == 0) (each_next batch i (cleaner.TakeCleanup (i + 1)) (claimed sizes batch)) (retreating sizes owned batch i)
      (λ e. each_on sizes most (step take ∷ steps) batch i (cleaner.TakeCleanup (i + 1)) (claimed sizes batch) (is, b)
      (if_both (λ c. Then c take) (holds_store batch (group_file sizes batch)) (Cleaning batch (cleaner.HoldEntry 0)) (Cleaning batch cleaner.TakeStore) (λ e. (is, b)) (λ e. (is, b))))
      (λ e. retreats_on sizes most (step take ∷ steps) owned batch i is b.0 (none_yet take refl t.0.retired_is))) op next
  bounds_on cleaner.TakeStore at t b op next =
      let take = cleaner.Take (STORE (group_file sizes batch)) in
      by_op cleaner.TakeStore take
      (if_both (λ c. Then c take) (found == 0) (Cleaning (record batch { files = group_file sizes batch ∷ batch.files }) (cleaner.HoldEntry 0)) (retreating sizes owned batch (length batch.pages))
      (λ e. (is, b)) (λ e. retreats_on sizes most (step take ∷ steps) owned batch (length batch.pages) is b.0 (none_yet take refl t.0.retired_is))) op next
  bounds_on (cleaner.HoldEntry i) at t b op next = by_op (cleaner.HoldEntry i) (cleaner.Hold (batch.reached + i)) (is, b) op next
  bounds_on (cleaner.ReadPiece i) at t b op next = absurd (cc)
  bounds_on (WriteBack i) at t b op next = absurd (cc)
  bounds_on (CleanEntry i) at t b op next =
      let one = Clean (batch.reached + i) in by_op (CleanEntry i) one (each_on sizes most (step one ∷ steps) batch i (CleanEntry (i + 1)) (Cleaning batch (SubtractDirty 0)) (is, b) (is, b)) op next
  bounds_on (SubtractDirty i) at t b op next =
      let one = Subtract (group_page batch i) in by_op (SubtractDirty i) one (each_on sizes most (step one ∷ steps) batch i (SubtractDirty (i + 1)) (Cleaning batch (cleaner.GiveCleanup 0)) (is, b) (is, b)) op next
  bounds_on (cleaner.GiveCleanup i) at t b op next =
      let one = cleaner.Give (CLEANUP (group_page batch i)) in
      let whole = (sound.grouped.progress.each by batch (cleaner.GiveCleanup i) at tt).whole tt in
      let first_group = b.1 in
      let passed : Passed most was_first (next_group batch) = elim (b.2) [
        | inl start ↦ (let c = first_group start in inr (omega (arith, whole, start, c)))
        | inr room ↦ inl (omega (arith, whole, room))
      ] in
      by_op (cleaner.GiveCleanup i) one
      (each_on sizes most (step one ∷ steps) batch i (cleaner.GiveCleanup (i + 1)) (surveying sizes owned (next_group batch)) (is, b)
      (surveys_on sizes most (step one ∷ steps) owned (next_group batch) is passed (none_yet one refl t.0.retired_is))) op next
  bounds_on (RefusedReturnEntry i end) at t b op next =
      let one = cleaner.Return (batch.reached + i) in
      by_op (RefusedReturnEntry i end) one
      (if_both (λ c. Then c one) (i + 1 == end) (retreating sizes owned batch (length batch.pages)) (Cleaning batch (RefusedReturnEntry (i + 1) end))
      (λ e. retreats_on sizes most (step one ∷ steps) owned batch (length batch.pages) is b (none_yet one refl t.0.retired_is)) (λ e. (is, b))) op next
  bounds_on (FailedReturnEntry i end) at t b op next =
      let one = cleaner.Return (batch.reached + i) in
      by_op (FailedReturnEntry i end) one
      (if_both (λ c. Then c one) (i + 1 == end) (withdrawing owned batch) (Cleaning batch (FailedReturnEntry (i + 1) end)) (λ e. withdraws_on sizes most (step one ∷ steps) owned batch is (none_yet one refl t.0.retired_is)) (λ e. (is, tt))) op next
  bounds_on (RefusedGiveCleanup i) at t b op next =
      let one = cleaner.Give (CLEANUP (group_page batch i)) in by_op (RefusedGiveCleanup i) one (retreats_on sizes most (step one ∷ steps) owned batch i is b (none_yet one refl t.0.retired_is)) op next
  bounds_on (SyncStores files) at t b op next = absurd (cc)
  bounds_on (MoveHeaderTail calls) at t b op next = absurd (cc)
  bounds_on (FreeEntry number) at t b op next =
      by_op (FreeEntry number) (Free number) (if_both (λ c. Then c (Free number)) (number + 1 == batch.reached) (Cleaning batch AdvanceTail) (Cleaning batch (FreeEntry (number + 1))) (λ e. (is, b)) (λ e. (is, b))) op next
  bounds_on AdvanceTail at t b op next = by_op AdvanceTail (MoveTail batch.reached) (discharges_on sizes most (step (MoveTail batch.reached) ∷ steps) batch (rising_files sizes batch) is b) op next
  bounds_on (GiveStores []) at t b op next = absurd (cc)
  bounds_on (GiveStores (file ∷ rest)) at t b op next =
      by_op (GiveStores (file ∷ rest)) (cleaner.Give (STORE file)) (discharges_on sizes most (step (cleaner.Give (STORE file)) ∷ steps) batch rest is b) op next
  bounds_on GiveHeader at t b op next = by_op GiveHeader (cleaner.Give HEADER) (is, b) op next
  bounds_on GiveCleaner at t b op next = by_op GiveCleaner (cleaner.Give CLEANER) over op next
    where
      over : (count : ℕ) → retired_in (step (cleaner.Give CLEANER) ∷ steps) ≡ Some count → KeepsTo most was_first count
      over count some =
          let told : Some (batch.reached - batch.tail) ≡ Some count = sym t.0.retired_is ∙ sym (either_none (retired_in steps)) ∙ some in
          let same = same_count (batch.reached - batch.tail) count told in
          let low = t.1 in
          elim b [
            | inl keeps ↦ inl (omega (arith, same, keeps))
            | inr alone ↦ inr (omega (arith, same, alone))
          ]
  bounds_on (SetStop held) at t b op next =
      by_op (SetStop held) cleaner.Stop
      (if_both (λ c. Then c cleaner.Stop) (held == 0) (withdrawing owned batch) (Cleaning batch (FailedReturnEntry 0 held)) (λ e. withdraws_on sizes most (step cleaner.Stop ∷ steps) owned batch is (none_yet cleaner.Stop refl t.0.retired_is)) (λ e. (is, tt))) op next
  bounds_on cleaner.GiveBack at t b op next =
      let gave = last_give (core.passes by).owned op next in
      subst (Then (withdrawing owned batch)) (sym gave.1) (withdraws_on sizes most (step (cleaner.Give gave.0) ∷ steps) owned batch is (none_yet (cleaner.Give gave.0) refl t.0.retired_is))

-- ---- all steps of a batch

no_first : (op : CleanerOp) → comes_in_batch (ByCleaner op) ≡ true → IsBatchEntry (ByCleaner op) Idle → ⊥
no_first (TakeCleaner most) own entry = cc
no_first op own entry = entry

module _ (sound : RunsAreSound) (tell : OwnEventsTell) (old new : PassState) (works : List Work) (op : CleanerOp) (found : ℕ)
    (taken : HasTaken record { opens = None; works = works; op = ByCleaner op; found = found } old new) (mount : IsMount (mount_of old.view.opened)) (most : ℕ) where
  abbrev step_sizes : Sizes
  step_sizes = taken.before.view.opened.sizes

  abbrev mid : Pass
  mid = mid_pass sound tell old new works op found taken mount

  -- where it stood behind its device calls
  next_on : (steps : List PassStep) → comes_in_batch (ByCleaner op) ≡ true → (control : Control) → mid.control ≡ control → Amid step_sizes control steps (calls_refusal works) → Bounded step_sizes most control steps
      → Bounded step_sizes most (pass_of new.view).control (one_step sound tell old new works op found taken mount ∷ steps)
  next_on steps own (Cleaning batch inner) at t b =
      subst (λ c. Bounded step_sizes most c (one_step sound tell old new works op found taken mount ∷ steps)) (sym (ap (λ (p : Pass). p.control) taken.stepped.pass ∙ ap (after_by_cleaner step_sizes (moved (cleaner_move step_sizes op found) mid.owned) op found) at))
      (bounds_on step_sizes (mount_of taken.before.view.opened).values (is_made sound tell old new works op found taken mount).core taken.before.view.number (is_made sound tell old new works op found taken mount).sound
      batch steps works found (moved (cleaner_move step_sizes op found) mid.owned) most b.0 inner (at_core sound tell old new works op found taken mount steps batch inner at) t.0 b.1 op
      (ap (λ (p : Pass). next_cleaner_op step_sizes p.owned batch inner) (is_made sound tell old new works op found taken mount).own ∙ by_core sound tell old new works op found taken mount batch inner at))
  next_on steps own Idle at t b =
      elim (subst (λ (p : Pass). (next_step step_sizes (is_made sound tell old new works op found taken mount).core.values p ≡ Some (ByCleaner op)) ⊎ IsBatchEntry (ByCleaner op) p.control) (is_made sound tell old new works op found taken mount).own (is_made sound tell old new works op found taken mount).may.may) [
        | inl next ↦ absurd (none_some (sym (ap (step_at step_sizes (is_made sound tell old new works op found taken mount).core.values mid) at) ∙ next))
        | inr entry ↦ absurd (no_first op own (subst (IsBatchEntry (ByCleaner op)) at entry))
      ]
  next_on steps own control at t b = absurd b

  pub bounded_next : (steps : List PassStep) → comes_in_batch (ByCleaner op) ≡ true → Tells step_sizes (pass_of taken.before.view).control steps → Bounded step_sizes most (pass_of taken.before.view).control steps
      → Bounded step_sizes most (pass_of new.view).control (one_step sound tell old new works op found taken mount ∷ steps)
  bounded_next steps own t b = next_on steps own mid.control refl (amid sound tell old new works op found taken mount steps t) (works_on step_sizes most steps taken.stepped.works (pass_of taken.before.view) b)

  -- the first one
  pub bounded_first : (pass_of taken.before.view).control ≡ Idle → op ≡ TakeCleaner most → Bounded step_sizes most (pass_of new.view).control (one_step sound tell old new works op found taken mount ∷ [])
  bounded_first at begins =
      subst (λ c. Bounded step_sizes most c (one_step sound tell old new works op found taken mount ∷ [])) (sym control_is)
      (subst (λ o. Bounded step_sizes most (begun_by o) (record { opens = None; works = works; op = ByCleaner o; found = found } ∷ [])) (sym begins)
      (if_both (λ c. Bounded step_sizes most c (record { opens = None; works = works; op = ByCleaner (TakeCleaner most); found = found } ∷ [])) (found == 0) (Cleaning (new_batch most) TakeHeader) Idle (λ e. (refl, tt)) (λ e count some. absurd (none_some some))))
    where
      begun_by : CleanerOp → Control
      begun_by o = after_by_cleaner step_sizes (moved (cleaner_move step_sizes o found) mid.owned) o found Idle

      control_is : (pass_of new.view).control ≡ begun_by op
      control_is = ap (λ (p : Pass). p.control) taken.stepped.pass ∙ ap (after_by_cleaner step_sizes (moved (cleaner_move step_sizes op found) mid.owned) op found) (ap (λ w. (pass_worked step_sizes w (pass_of taken.before.view)).control) (works_none sound tell old new works op found taken mount at) ∙ at)

the_op : Op → CleanerOp
the_op (ByCleaner op) = op
the_op op = cleaner.Stop

is_one : (op : Op) → comes_in_batch op ≡ true → op ≡ ByCleaner (the_op op)
unfolding the_op
is_one (ByCleaner op) own = refl
is_one op own = absurd (cc)

module _ (sound : RunsAreSound) (tell : OwnEventsTell) (start : PassState) (mount : IsMount (mount_of start.view.opened)) (idle : (pass_of start.view).control ≡ Idle) (most : ℕ) where
  abbrev first_sizes : Sizes
  first_sizes = start.view.opened.sizes

  module _ (step : PassStep) (old now : PassState) (same : old.view.opened ≡ start.view.opened) (taken : HasTaken step old now) (op : CleanerOp) (opens : step.opens ≡ None) (is : step.op ≡ ByCleaner op) where
    mount_old : IsMount (mount_of old.view.opened)
    mount_old = subst (λ (o : Opened). IsMount (mount_of o)) (sym same) mount

    as_shaped : HasTaken (record { opens = None; works = step.works; op = ByCleaner op; found = step.found }) old now
    as_shaped = subst (λ s. HasTaken s old now) (shape step op opens is) taken

    view_is : as_shaped.before.view ≡ old.view
    view_is = as_shaped.between.view

    conv : (steps : List PassStep) → Bounded as_shaped.before.view.opened.sizes most (pass_of now.view).control (record { opens = None; works = step.works; op = ByCleaner op; found = step.found } ∷ steps)
        → Bounded first_sizes most (pass_of now.view).control (step ∷ steps)
    conv steps b =
        subst (λ s. Bounded first_sizes most (pass_of now.view).control (s ∷ steps)) (sym (shape step op opens is))
        (subst (λ (o : Opened). Bounded o.sizes most (pass_of now.view).control (record { opens = None; works = step.works; op = ByCleaner op; found = step.found } ∷ steps)) (ap (λ (v : PassView). v.opened) view_is ∙ same) b)

    more_first : (pass_of old.view).control ≡ Idle → op ≡ TakeCleaner most → Bounded first_sizes most (pass_of now.view).control (step ∷ [])
    more_first at begins = conv [] (bounded_first sound tell old now step.works op step.found as_shaped mount_old most (ap (λ (v : PassView). (pass_of v).control) view_is ∙ at) begins)

    more_next : (steps : List PassStep) → comes_in_batch (ByCleaner op) ≡ true → Tells first_sizes (pass_of old.view).control steps → Bounded first_sizes most (pass_of old.view).control steps → Bounded first_sizes most (pass_of now.view).control (step ∷ steps)
    more_next steps own t b =
        conv steps (bounded_next sound tell old now step.works op step.found as_shaped mount_old most steps own
        (subst (λ (v : PassView). Tells v.opened.sizes (pass_of v).control steps) (sym view_is) (subst (λ (o : Opened). Tells o.sizes (pass_of old.view).control steps) (sym same) t))
        (subst (λ (v : PassView). Bounded v.opened.sizes most (pass_of v).control steps) (sym view_is) (subst (λ (o : Opened). Bounded o.sizes most (pass_of old.view).control steps) (sym same) b)))

  not_none : (step : PassStep) (earlier : List PassStep) → step ∷ earlier ≡ [] → ⊥
  not_none step earlier e = cc

  pub bounded_all : (steps : List PassStep) (now : PassState) → HasMade steps start now → AreOwn steps → BeginsWith most steps → Bounded first_sizes most (pass_of now.view).control steps
  bounded_all [] now made own begins = absurd begins
  bounded_all (step ∷ []) now made own begins =
      more_first step made.0 now (made_opened [] start made.0 made.1) made.2 (TakeCleaner most) own.0 begins (ap (λ (p : PassState). (pass_of p.view).control) made.1 ∙ idle) refl
  bounded_all (step ∷ (other ∷ rest)) now made own begins =
      let one = is_one step.op own.1 in
      more_next step made.0 now (made_opened (other ∷ rest) start made.0 made.1) made.2 (the_op step.op) own.0 one (other ∷ rest) (subst (λ o. comes_in_batch o ≡ true) one own.1)
      (tells_all sound tell start mount idle (other ∷ rest) made.0 made.1 own.2 (not_none other rest)) (bounded_all (other ∷ rest) made.0 made.1 own.2 begins)
