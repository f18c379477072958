-- Counts: a batch cleans whole groups, lowers DIRTY of a page once for each entry of it that it cleans, and has cleaned none where it is refused and no device has failed.
use Rattle.std.proofs.Common.{◌≡◌, ◌⊎◌, inl, inr, ℕ, zero, suc, ◌+◌, ◌-◌, ◌<◌, ◌≤◌, ◌==◌, nat_lt, nat_le, Bool, true, false, not, ◌&&◌, ◌||◌, if◌then◌else◌, List, [], ◌∷◌, ◌++◌, length, refl, sym, ap, ap₂, subst, ◌∙◌, arith, eq-eqb, eqb-true, ne_eqb}
use Rattle.std.specs.Prelude.{Option, Some, None, is_some}
use Rattle.nv_header.specs.HeaderSteps.{tail_steps}
use Rattle.nv_core.specs.state.Words.{Sizes, Word, STOP, HEAD, TAIL, HEADER, CLEANER, STORE, ENTRY, CLEANUP, kind_of, page_of, ready, slot_of_entry}
use Rattle.nv_core.specs.state.Cleaner.{Batch, CleanerControl, TakeHeader, LoadTail, LoadHead, WriteBack, CleanEntry, SubtractDirty, RefusedReturnEntry, FailedReturnEntry, RefusedGiveCleanup, SyncStores, MoveHeaderTail, FreeEntry, AdvanceTail, GiveStores, GiveHeader, GiveCleaner, SetStop, CleanerOp, TakeCleaner, Clean, Subtract, Free, MoveTail}
use Rattle.nv_core.specs.state.Cleaner as cleaner
use Rattle.nv_core.specs.state.Core.{Core, control_worked, worked, values_worked}
use Rattle.nv_core.specs.state.Passes.{Control, Idle, Cleaning, Pass}
use Rattle.nv_core.specs.state.Values.{CallEnding, Made, Failed, Refused}
use Rattle.nv_core.specs.steps.CleanerSteps.{after_cleaner_op, after_cleaner_work, batch_with_page, claimed, cleaner_word, closed, count_of, discharging, each_next, finishing, group_file, group_page, holds_store, may_pass, new_batch, next_cleaner_op, next_group, retreating, rising_files, surveyed, surveying, syncing, withdrawing}
use Rattle.nv_core.specs.steps.ControlSteps.{after_by_cleaner}
use Rattle.nv_core.specs.steps.Frames.{OwnEventsTell}
use Rattle.nv_core.specs.steps.Opening.{IsMount}
use Rattle.nv_core.specs.steps.Ops.{Op, ByCleaner, cleaner_move, moved}
use Rattle.nv_core.specs.steps.Order.{Values, Work, CallDue, CallEnabled, CleanerCallDue, IsBatchEntry, next_step, step_at}
use Rattle.nv_core.specs.invariant.ControlFacts.{CleanerFactsAt, FactsAt}
use Rattle.nv_core.specs.invariant.InvariantLaws.{RunsAreSound}
use Rattle.nv_core.specs.invariant.Ownership.{one_if}
use Rattle.nv_core.specs.invariant.Sound.{Sound}
use Rattle.nv_core.specs.log.Progress.{HasLoadedTail}
use Rattle.nv_core.proofs.invariant.CleanerLocks.{cleaner_op_is}
use Rattle.nv_core.proofs.state.Choices.{if_both}
use Rattle.nv_table.specs.state.Opened.{Opened, mount_of}
use Rattle.nv_table.specs.state.States.{PassState}
use Rattle.nv_table.specs.state.Views.{PassView, pass_of, values_of}
use Rattle.nv_table.specs.steps.SeatSteps.{AreDue, pass_worked}
use Rattle.nv_mirror.specs.PassSteps.{PassStep, HasMade, HasTaken, either_of}
use Rattle.nv_clean.specs.Answers.{BeginsWith, cleans_in, is_clean, refusal_in, retired_by, retired_in, stops_in, tail_in}
use Rattle.nv_clean.specs.Cleaning.{calls_refusal}
use Rattle.nv_clean.specs.OwnSteps.{AreOwn, comes_in_batch}
use Rattle.nv_clean.specs.WholeGroups.{AreGroups, AreWholeGroups, finds_leader, leads_in}
use Rattle.nv_clean.specs.WordsLeft.{cleaned_of, cleans, lowered_of, lowers}
use Rattle.nv_clean.proofs.AnswerLaws.{amid, made_opened, shape, tells_all, works_none}
use Rattle.nv_clean.proofs.TellLaws.{Amid, Tells, TellsAt, either_none, has_passed, last_give, unpassed}
use Rattle.nv_clean.proofs.ToldLaws.{at_core, by_core, is_made, mid_pass, one_step}

-- ---- what is so by where it stands

-- what it has cleaned are whole groups
abbrev Behind : Sizes → List PassStep → Batch → Type 0
Behind sizes steps batch = (counts : List ℕ) × AreGroups sizes steps batch.tail counts batch.reached

-- and the group at hand is one that its leader said
abbrev Hand : Sizes → List PassStep → Batch → Type 0
Hand sizes steps batch = leads_in sizes batch.reached batch.count steps ≡ true

abbrev HandAt : Sizes → List PassStep → Batch → CleanerControl → Type 0
HandAt sizes steps batch (cleaner.LoadEntry (suc i)) = Hand sizes steps batch
HandAt sizes steps batch (cleaner.TakeCleanup i) = Hand sizes steps batch
HandAt sizes steps batch cleaner.TakeStore = Hand sizes steps batch
HandAt sizes steps batch (cleaner.HoldEntry i) = Hand sizes steps batch
HandAt sizes steps batch (cleaner.ReadPiece i) = Hand sizes steps batch
HandAt sizes steps batch (WriteBack i) = Hand sizes steps batch
HandAt sizes steps batch (CleanEntry i) = Hand sizes steps batch
HandAt sizes steps batch (SubtractDirty i) = Hand sizes steps batch
HandAt sizes steps batch (cleaner.GiveCleanup i) = Hand sizes steps batch
HandAt sizes steps batch inner = Unit {0}

-- how many of the first entries of the group at hand are of a page
abbrev among : Batch → (page : ℕ) → (i : ℕ) → ℕ
among batch page zero = 0
among batch page (suc i) = among batch page i + one_if (group_page batch i == page)

abbrev Even : List PassStep → Type 0
Even steps = (page : ℕ) → lowered_of page steps ≡ cleaned_of page steps

abbrev EvenAt : Batch → List PassStep → CleanerControl → Type 0
EvenAt batch steps (CleanEntry i) = (page : ℕ) → cleaned_of page steps ≡ lowered_of page steps + among batch page i
EvenAt batch steps (SubtractDirty i) = (page : ℕ) → cleaned_of page steps + among batch page i ≡ lowered_of page steps + among batch page (length batch.pages)
EvenAt batch steps inner = Even steps

-- it has cleaned nothing, or set STOP
abbrev Gave : List PassStep → Type 0
Gave steps = (cleans_in steps ≡ false) ⊎ (stops_in steps ≡ true)

abbrev GaveAt : List PassStep → CleanerControl → Type 0
GaveAt steps (FailedReturnEntry i end) = stops_in steps ≡ true
GaveAt steps cleaner.GiveBack = Gave steps
GaveAt steps inner = Unit {0}

abbrev CountedAt : Sizes → Batch → CleanerControl → List PassStep → Type 0
CountedAt sizes batch inner steps = Behind sizes steps batch × HandAt sizes steps batch inner × EvenAt batch steps inner × GaveAt steps inner

-- and of one that is over
pub record IsCounted (sizes : Sizes) (steps : List PassStep) : Type 0 where
  pub whole : (count : ℕ) → retired_in steps ≡ Some count → AreWholeGroups sizes steps (tail_in steps) count
  pub dirty : Even steps
  pub left : is_some (refusal_in sizes steps) ≡ true → Gave steps

abbrev pub Counted : Sizes → Control → List PassStep → Type 0
Counted sizes (Cleaning batch inner) steps = CountedAt sizes batch inner steps
Counted sizes Idle steps = IsCounted sizes steps
Counted sizes control steps = ⊥

-- ---- device calls

module _ (sizes : Sizes) (steps : List PassStep) where
  sync_on : (batch : Batch) (files : List ℕ) → Behind sizes steps batch → Even steps → Counted sizes (syncing batch files) steps
  sync_on batch [] b e = (b, tt, e, tt)
  sync_on batch (file ∷ rest) b e = (b, tt, e, tt)

  module _ (values : Values) (batch : Batch) (work : Work) where
    made_on : (inner : CleanerControl) → CountedAt sizes batch inner steps → CleanerCallDue sizes values batch work inner → Counted sizes (after_cleaner_work batch Made inner) steps
    made_on (cleaner.ReadPiece i) c due = (c.0, c.1, c.2, tt)
    made_on (WriteBack i) c due =
        if_both (λ c. Counted sizes c steps) (i + 1 == length batch.pages) (Cleaning batch (CleanEntry 0)) (Cleaning batch (cleaner.HoldEntry (i + 1)))
        (λ e. (c.0, c.1, (λ page. let same = c.2 page in let none : among batch page 0 ≡ 0 = refl in omega (arith, same, none)), tt)) (λ e. (c.0, c.1, c.2, tt))
    made_on (SyncStores (file ∷ rest)) c due = sync_on batch rest c.0 c.2
    made_on (MoveHeaderTail calls) c due =
        if_both (λ c. Counted sizes c steps) (calls + 1 == length (tail_steps batch.reached)) (Cleaning batch (FreeEntry batch.tail)) (Cleaning batch (MoveHeaderTail (calls + 1))) (λ e. (c.0, tt, c.2, tt)) (λ e. (c.0, tt, c.2, tt))
    made_on inner c due = absurd due

    failed_on : (came : Bool) (faults : ℕ) (inner : CleanerControl) → CountedAt sizes batch inner steps → CleanerCallDue sizes values batch work inner → Counted sizes (after_cleaner_work batch (Failed came faults) inner) steps
    failed_on came faults (cleaner.ReadPiece i) c due = (c.0, tt, c.2, tt)
    failed_on came faults (WriteBack i) c due = (c.0, tt, c.2, tt)
    failed_on came faults (SyncStores (file ∷ rest)) c due = (c.0, tt, c.2, tt)
    failed_on came faults (MoveHeaderTail calls) c due = (c.0, tt, c.2, tt)
    failed_on came faults inner c due = absurd due

    refused_on : (inner : CleanerControl) → CountedAt sizes batch inner steps → CleanerCallDue sizes values batch work inner → Counted sizes (after_cleaner_work batch Refused inner) steps
    refused_on (cleaner.ReadPiece i) c due = (c.0, c.1, c.2, tt)
    refused_on (WriteBack i) c due = (c.0, tt, c.2, tt)
    refused_on (SyncStores (file ∷ rest)) c due = (c.0, tt, c.2, tt)
    refused_on (MoveHeaderTail calls) c due = (c.0, tt, c.2, tt)
    refused_on inner c due = absurd due

    ended_on : (ending : CallEnding) (inner : CleanerControl) → CountedAt sizes batch inner steps → CleanerCallDue sizes values batch work inner → Counted sizes (after_cleaner_work batch ending inner) steps
    ended_on Made inner c due = made_on inner c due
    ended_on (Failed came faults) inner c due = failed_on came faults inner c due
    ended_on Refused inner c due = refused_on inner c due

  work_on : (values : Values) (pass : Pass) (work : Work) (control : Control) → pass.control ≡ control → Counted sizes control steps → CallEnabled sizes values pass work → Counted sizes (worked sizes work pass).control steps
  work_on values pass work (Cleaning batch inner) at c may =
      subst (λ control. Counted sizes (control_worked sizes pass work.ending control) steps) (sym at) (by_ending work.ending (ended_on values batch work work.ending inner c (subst (CallDue sizes values pass work) at may.due)))
    where
      by_ending : (ending : CallEnding) → Counted sizes (after_cleaner_work batch ending inner) steps → Counted sizes (control_worked sizes pass ending (Cleaning batch inner)) steps
      by_ending Made c = c
      by_ending (Failed came faults) c = c
      by_ending Refused c = c
  work_on values pass work Idle at c may = absurd (subst (CallDue sizes values pass work) at may.due)
  work_on values pass work control at c may = absurd c

  works_on : (works : List Work) (values : Values) (pass : Pass) → Counted sizes pass.control steps → AreDue sizes values pass works → Counted sizes (pass_worked sizes works pass).control steps
  works_on [] values pass c due = c
  works_on (work ∷ later) values pass c due = works_on later (values_worked pass work values) (worked sizes work pass) (work_on values pass work pass.control refl c due.0) due.1

-- ---- where it goes on

none_some : {T : Type 0} {value : T} → None ≡ Some value → ⊥
none_some e = cc

module _ (sizes : Sizes) (steps : List PassStep) where
  withdraws_on : (owned : List Word) (batch : Batch) → Behind sizes steps batch → Even steps → retired_in steps ≡ None → Gave steps → Counted sizes (withdrawing owned batch) steps
  withdraws_on [] batch b e none gave = record { whole = λ count some. absurd (none_some (sym none ∙ some)); dirty = e; left = λ refused. gave }
  withdraws_on (cell ∷ rest) batch b e none gave = (b, tt, e, gave)

  finishes_on : (owned : List Word) (batch : Batch) → Behind sizes steps batch → Even steps → retired_in steps ≡ None → ((batch.reached == batch.tail) ≡ true → cleans_in steps ≡ false) → Counted sizes (finishing sizes owned batch) steps
  finishes_on owned batch b e none unclean = if_both (λ c. Counted sizes c steps) (batch.reached == batch.tail) (withdrawing owned (closed batch)) (syncing (closed batch) (rising_files sizes batch))
      (λ same. withdraws_on owned (closed batch) b e none (inl (unclean same))) (λ other. sync_on sizes steps (closed batch) (rising_files sizes batch) b e)

  surveys_on : (owned : List Word) (batch : Batch) → Behind sizes steps batch → Even steps → retired_in steps ≡ None → ((batch.reached == batch.tail) ≡ true → cleans_in steps ≡ false) → Counted sizes (surveying sizes owned batch) steps
  surveys_on owned batch b e none unclean = if_both (λ c. Counted sizes c steps) (nat_lt batch.reached batch.head) (Cleaning batch (cleaner.LoadEntry 0)) (finishing sizes owned batch)
      (λ more. (b, tt, e, tt)) (λ last. finishes_on owned batch b e none unclean)

  retreats_on : (owned : List Word) (batch : Batch) (i : ℕ) → Behind sizes steps batch → Even steps → retired_in steps ≡ None → ((batch.reached == batch.tail) ≡ true → cleans_in steps ≡ false) → Counted sizes (retreating sizes owned batch i) steps
  retreats_on owned batch i b e none unclean = if_both (λ c. Counted sizes c steps) (i == 0) (finishing sizes owned batch) (Cleaning batch (RefusedGiveCleanup (i - 1)))
      (λ last. finishes_on owned batch b e none unclean) (λ more. (b, tt, e, tt))

  each_on : (batch : Batch) (i : ℕ) (inner : CleanerControl) (last : Control) → ((i + 1 == length batch.pages) ≡ false → Counted sizes (Cleaning batch inner) steps) → ((i + 1 == length batch.pages) ≡ true → Counted sizes last steps)
      → Counted sizes (each_next batch i inner last) steps
  each_on batch i inner last here there = if_both (λ c. Counted sizes c steps) (i + 1 == length batch.pages) last (Cleaning batch inner) there here

  discharges_on : (batch : Batch) (files : List ℕ) → Behind sizes steps batch → Even steps → Counted sizes (discharging batch files) steps
  discharges_on batch [] b e = (b, tt, e, tt)
  discharges_on batch (file ∷ rest) b e = (b, tt, e, tt)

  load_on : (batch : Batch) (i : ℕ) → Behind sizes steps batch → Hand sizes steps batch → Even steps → Counted sizes (Cleaning batch (cleaner.LoadEntry (i + 1))) steps
  load_on batch i b hand e = subst (λ n. Counted sizes (Cleaning batch (cleaner.LoadEntry n)) steps) (let same : suc i ≡ i + 1 = omega arith in same) (b, hand, e, tt)

-- ---- a step

or_true : (one other : Bool) → other ≡ true → (one || other) ≡ true
or_true true other is = refl
or_true false other is = is

true_or : (one other : Bool) → one ≡ true → (one || other) ≡ true
true_or one other is = ap (λ b. b || other) is

and_true : (one other third : Bool) → one ≡ true → other ≡ true → third ≡ true → (one && other && third) ≡ true
and_true one other third a b c = ap₂ (λ x y. x && y && third) a b ∙ c

the_count : Option ℕ → ℕ
the_count (Some count) = count
the_count None = 0

same_count : (one other : ℕ) → Some one ≡ Some other → one ≡ other
unfolding the_count
same_count one other e = ap the_count e

module _ (sizes : Sizes) (step : PassStep) (steps : List PassStep) where
  leads_more : (number count : ℕ) → leads_in sizes number count steps ≡ true → leads_in sizes number count (step ∷ steps) ≡ true
  leads_more number count is = or_true (finds_leader sizes number count step.op step.found) (leads_in sizes number count steps) is

  groups_more : (from : ℕ) (counts : List ℕ) (end : ℕ) → AreGroups sizes steps from counts end → AreGroups sizes (step ∷ steps) from counts end
  groups_more from [] end groups = groups
  groups_more from (count ∷ before) end groups = (groups.0, leads_more groups.0 count groups.1, groups.2, groups_more from before groups.0 groups.3)

  behind_more : (batch : Batch) → Behind sizes steps batch → Behind sizes (step ∷ steps) batch
  behind_more batch b = (b.0, groups_more batch.tail b.0 batch.reached b.1)

  even_more : ((page : ℕ) → cleans page step.op step.found ≡ 0) → ((page : ℕ) → lowers page step.op ≡ 0) → Even steps → Even (step ∷ steps)
  even_more cleans_none lowers_none e page = let c = cleans_none page in let l = lowers_none page in let same = e page in omega (arith, c, l, same)

  gave_more : is_clean step.op ≡ false → Gave steps → Gave (step ∷ steps)
  gave_more unclean gave = elim gave [
    | inl none ↦ inl (ap₂ (λ a b. a || b) unclean none)
    | inr stops ↦ inr (or_true _ (stops_in steps) stops)
  ]

module _ (sizes : Sizes) (values : Values) (core : Core) (by : ℕ) (sound : Sound sizes values core) (batch : Batch) (steps : List PassStep) (works : List Work) (found : ℕ) (owned : List Word) where
  abbrev Is : CleanerControl → Type 0
  Is inner = (core.passes by).control ≡ Cleaning batch inner

  abbrev step : CleanerOp → PassStep
  step op = record { opens = None; works = works; op = ByCleaner op; found = found }

  abbrev Then : Control → CleanerOp → Type 0
  Then control op = Counted sizes control (step op ∷ steps)

  abbrev Comes : CleanerControl → Type 0
  Comes inner = (op : CleanerOp) → next_cleaner_op sizes (core.passes by).owned batch inner ≡ Some op → core.words (cleaner_word sizes op) ≡ found → Then (after_cleaner_op sizes owned batch inner found) op

  by_op : (inner : CleanerControl) (one : CleanerOp) → (core.words (cleaner_word sizes one) ≡ found → Then (after_cleaner_op sizes owned batch inner found) one) → (op : CleanerOp) → Some one ≡ Some op → core.words (cleaner_word sizes op) ≡ found
      → Then (after_cleaner_op sizes owned batch inner found) op
  by_op inner one c op next reads = let same = cleaner_op_is one op next in subst (Then (after_cleaner_op sizes owned batch inner found)) (sym same) (c (subst (λ o. core.words (cleaner_word sizes o) ≡ found) same reads))

  -- nothing is retired by a step that moves no tail
  none_yet : (op : CleanerOp) → retired_by (ByCleaner op) (tail_in steps) ≡ None → retired_in steps ≡ None → retired_in (step op ∷ steps) ≡ None
  none_yet op same none = ap (either_of (retired_in steps)) same ∙ either_none (retired_in steps) ∙ none

  facts : (inner : CleanerControl) → Is inner → CleanerFactsAt batch (core.passes by).owned inner
  facts inner at = subst (FactsAt sizes (core.passes by)) at (sound.control_facts by).at

  -- what goes on by a step that cleans no entry
  behind_so : (op : CleanerOp) → Behind sizes steps batch → Behind sizes (step op ∷ steps) batch
  behind_so op b = behind_more sizes (step op) steps batch b

  hand_so : (op : CleanerOp) → Hand sizes steps batch → Hand sizes (step op ∷ steps) batch
  hand_so op hand = leads_more sizes (step op) steps batch.reached batch.count hand

  even_so : (op : CleanerOp) → ((page : ℕ) → cleans page (ByCleaner op) found ≡ 0) → ((page : ℕ) → lowers page (ByCleaner op) ≡ 0) → Even steps → Even (step op ∷ steps)
  even_so op cleans_none lowers_none e = even_more sizes (step op) steps cleans_none lowers_none e

  -- it has cleaned nothing, where it is at its first group
  unclean_so : (op : CleanerOp) → is_clean (ByCleaner op) ≡ false → cleans_in steps ≡ has_passed batch → (batch.reached == batch.tail) ≡ true → cleans_in (step op ∷ steps) ≡ false
  unclean_so op unclean cleaned first = ap₂ (λ a b. a || b) unclean (cleaned ∙ ap not first)

  -- ENTRY of the leader of a group, or of a follower
  module _ (i : ℕ) where
    abbrev look : CleanerOp
    look = cleaner.Load (ENTRY (slot_of_entry sizes (batch.reached + i)))

    looks_on : Behind sizes steps batch → Even steps → retired_in steps ≡ None → cleans_in steps ≡ has_passed batch
        → (may_pass batch found ≡ true → (i == 0) ≡ true → Hand sizes (step look ∷ steps) (batch_with_page batch i found)) → ((i == 0) ≡ false → Hand sizes (step look ∷ steps) (batch_with_page batch i found))
        → Then (if i == 0 && not (may_pass batch found) then finishing sizes owned batch else surveyed (batch_with_page batch i found) i) look
    looks_on b e none cleaned leads follows = go (i == 0) (may_pass batch found) refl refl
      where
        even : Even (step look ∷ steps)
        even = even_so look (λ page. refl) (λ page. refl) e

        survey : Hand sizes (step look ∷ steps) (batch_with_page batch i found) → Then (surveyed (batch_with_page batch i found) i) look
        survey hand = if_both (λ c. Then c look) (nat_lt (i + 1) (batch_with_page batch i found).count) (Cleaning (batch_with_page batch i found) (cleaner.LoadEntry (i + 1))) (Cleaning (batch_with_page batch i found) (cleaner.TakeCleanup 0))
            (λ more. load_on sizes (step look ∷ steps) (batch_with_page batch i found) i (behind_so look b) hand even) (λ last. (behind_so look b, hand, even, tt))

        go : (b c : Bool) → (i == 0) ≡ b → may_pass batch found ≡ c → Then (if b && not c then finishing sizes owned batch else surveyed (batch_with_page batch i found) i) look
        go true true z passes = survey (leads passes z)
        go true false z passes = finishes_on sizes (step look ∷ steps) owned batch (behind_so look b) even (none_yet look refl none) (unclean_so look refl cleaned)
        go false c z passes = survey (follows z)

  -- a leader that it may pass is ready
  ready_then : (found : ℕ) (b : Bool) → (kind_of found == ready && b) ≡ true → (kind_of found == ready) ≡ true
  ready_then found b passes = go (kind_of found == ready) b passes
    where
      go : (one other : Bool) → (one && other) ≡ true → one ≡ true
      go true other is = refl
      go false other is = absurd (cc)

  leads_so : (number : ℕ) → number ≡ batch.reached → may_pass batch found ≡ true → leads_in sizes batch.reached (count_of found) (step (cleaner.Load (ENTRY (slot_of_entry sizes number))) ∷ steps) ≡ true
  leads_so number same passes = true_or _ (leads_in sizes batch.reached (count_of found) steps)
      (and_true (slot_of_entry sizes number == slot_of_entry sizes batch.reached) (kind_of found == ready) (count_of found == count_of found) (eq-eqb _ _ (ap (slot_of_entry sizes) same))
      (ready_then found (batch.reached == batch.tail || nat_le (batch.reached + count_of found) (batch.tail + batch.most)) passes) (eq-eqb (count_of found) (count_of found) refl))

  -- an entry of the group at hand says its page
  page_said : (inner : CleanerControl) → Is inner → HasLoadedTail inner → (i : ℕ) → i < length batch.pages → core.words (ENTRY (slot_of_entry sizes (batch.reached + i))) ≡ found → page_of found ≡ group_page batch i
  page_said inner at loaded i low reads = ap page_of (sym reads) ∙ ((sound.grouped.progress.each by batch inner at loaded).looked i low).page

  clean_even : (i : ℕ) → Is (CleanEntry i) → core.words (ENTRY (slot_of_entry sizes (batch.reached + i))) ≡ found → EvenAt batch steps (CleanEntry i)
      → (page : ℕ) → cleaned_of page (step (Clean (batch.reached + i)) ∷ steps) ≡ lowered_of page (step (Clean (batch.reached + i)) ∷ steps) + among batch page (suc i)
  clean_even i at reads e page =
      let same = e page in
      let said : one_if (page_of found == page) ≡ one_if (group_page batch i == page) = ap (λ p. one_if (p == page)) (page_said (CleanEntry i) at tt i (facts (CleanEntry i) at) reads) in
      omega (arith, same, said)

  subtract_even : (i : ℕ) → EvenAt batch steps (SubtractDirty i)
      → (page : ℕ) → cleaned_of page (step (Subtract (group_page batch i)) ∷ steps) + among batch page (suc i) ≡ lowered_of page (step (Subtract (group_page batch i)) ∷ steps) + among batch page (length batch.pages)
  subtract_even i e page = let same = e page in omega (arith, same)

  same_suc : (i : ℕ) → suc i ≡ i + 1
  same_suc i = omega arith

  pub counts_on : (inner : CleanerControl) → Is inner → TellsAt sizes batch inner steps → CountedAt sizes batch inner steps → Comes inner
  counts_on TakeHeader at t c op next reads =
      let one = cleaner.Take HEADER in
      by_op TakeHeader one (λ r. if_both (λ c. Then c one) (found == 0) (Cleaning batch cleaner.LoadStop) (withdrawing owned batch) (λ e. (behind_so one c.0, tt, even_so one (λ page. refl) (λ page. refl) c.2, tt))
      (λ e. withdraws_on sizes (step one ∷ steps) owned batch (behind_so one c.0) (even_so one (λ page. refl) (λ page. refl) c.2) (none_yet one refl t.0.retired_is)
      (inl (t.0.cleaned_is ∙ unpassed sizes values core by sound batch steps None works found owned TakeHeader at tt)))) op next reads
  counts_on cleaner.LoadStop at t c op next reads =
      let one = cleaner.Load STOP in
      by_op cleaner.LoadStop one (λ r. if_both (λ c. Then c one) (found == 0) (Cleaning batch LoadTail) (withdrawing owned batch) (λ e. (behind_so one c.0, tt, even_so one (λ page. refl) (λ page. refl) c.2, tt))
      (λ e. withdraws_on sizes (step one ∷ steps) owned batch (behind_so one c.0) (even_so one (λ page. refl) (λ page. refl) c.2) (none_yet one refl t.0.retired_is)
      (inl (t.0.cleaned_is ∙ unpassed sizes values core by sound batch steps None works found owned cleaner.LoadStop at tt)))) op next reads
  counts_on LoadTail at t c op next reads =
      let one = cleaner.Load TAIL in
      by_op LoadTail one (λ r. (([], refl), tt, even_so one (λ page. refl) (λ page. refl) c.2, tt)) op next reads
  counts_on LoadHead at t c op next reads =
      let one = cleaner.Load HEAD in
      by_op LoadHead one (λ r. surveys_on sizes (step one ∷ steps) owned (record batch { head = found }) (behind_so one c.0) (even_so one (λ page. refl) (λ page. refl) c.2) (none_yet one refl t.0.retired_is) (unclean_so one refl t.0.cleaned_is)) op next reads
  counts_on (cleaner.LoadEntry zero) at t c op next reads =
      by_op (cleaner.LoadEntry zero) (look zero) (λ r. looks_on zero c.0 c.2 t.0.retired_is t.0.cleaned_is (λ passes z. leads_so (batch.reached + zero) (let same : batch.reached + zero ≡ batch.reached = omega arith in same) passes) (λ some. absurd (cc))) op next reads
  counts_on (cleaner.LoadEntry (suc i)) at t c op next reads =
      by_op (cleaner.LoadEntry (suc i)) (look (suc i)) (λ r. looks_on (suc i) c.0 c.2 t.0.retired_is t.0.cleaned_is (λ passes z. absurd (no_zero z)) (λ some. hand)) op next reads
    where
      other : (suc i == 0) ≡ false
      other = ne_eqb (suc i) 0 (omega arith)

      no_zero : (suc i == 0) ≡ true → ⊥
      no_zero z = let e = eqb-true (suc i) 0 z in omega (arith, e)

      hand : Hand sizes (step (look (suc i)) ∷ steps) (batch_with_page batch (suc i) found)
      hand = subst (λ b. leads_in sizes batch.reached (if b then count_of found else batch.count) (step (look (suc i)) ∷ steps) ≡ true) (sym other) (hand_so (look (suc i)) c.1)
  counts_on (cleaner.TakeCleanup i) at t c op next reads =
      let one = cleaner.Take (CLEANUP (group_page batch i)) in
      by_op (cleaner.TakeCleanup i) one
      (λ r. let even = even_so one (λ page. refl) (λ page. refl) c.2 in
      if_both (λ c. Then c one) (found == 0) (each_next batch i (cleaner.TakeCleanup (i + 1)) (claimed sizes batch)) (retreating sizes owned batch i)
      (λ e. each_on sizes (step one ∷ steps) batch i (cleaner.TakeCleanup (i + 1)) (claimed sizes batch) (λ more. (behind_so one c.0, hand_so one c.1, even, tt))
      (λ last. if_both (λ c. Then c one) (holds_store batch (group_file sizes batch)) (Cleaning batch (cleaner.HoldEntry 0)) (Cleaning batch cleaner.TakeStore) (λ e. (behind_so one c.0, hand_so one c.1, even, tt)) (λ e. (behind_so one c.0, hand_so one c.1, even, tt))))
      (λ e. retreats_on sizes (step one ∷ steps) owned batch i (behind_so one c.0) even (none_yet one refl t.0.retired_is) (unclean_so one refl t.0.cleaned_is))) op next reads
  counts_on cleaner.TakeStore at t c op next reads =
      let one = cleaner.Take (STORE (group_file sizes batch)) in
      by_op cleaner.TakeStore one
      (λ r. let even = even_so one (λ page. refl) (λ page. refl) c.2 in
      if_both (λ c. Then c one) (found == 0) (Cleaning (record batch { files = group_file sizes batch ∷ batch.files }) (cleaner.HoldEntry 0)) (retreating sizes owned batch (length batch.pages))
      (λ e. (behind_so one c.0, hand_so one c.1, even, tt))
      (λ e. retreats_on sizes (step one ∷ steps) owned batch (length batch.pages) (behind_so one c.0) even (none_yet one refl t.0.retired_is) (unclean_so one refl t.0.cleaned_is))) op next reads
  counts_on (cleaner.HoldEntry i) at t c op next reads =
      let one = cleaner.Hold (batch.reached + i) in by_op (cleaner.HoldEntry i) one (λ r. (behind_so one c.0, hand_so one c.1, even_so one (λ page. refl) (λ page. refl) c.2, tt)) op next reads
  counts_on (cleaner.ReadPiece i) at t c op next reads = absurd (cc)
  counts_on (WriteBack i) at t c op next reads = absurd (cc)
  counts_on (CleanEntry i) at t c op next reads =
      let one = Clean (batch.reached + i) in
      by_op (CleanEntry i) one
      (λ r. let even = clean_even i at r c.2 in
      each_on sizes (step one ∷ steps) batch i (CleanEntry (i + 1)) (Cleaning batch (SubtractDirty 0)) (λ more. (behind_so one c.0, hand_so one c.1, (λ page. subst (λ n. cleaned_of page (step one ∷ steps) ≡ lowered_of page (step one ∷ steps) + among batch page n) (same_suc i) (even page)), tt))
      (λ last. (behind_so one c.0, hand_so one c.1, (λ page. let all = subst (λ n. cleaned_of page (step one ∷ steps) ≡ lowered_of page (step one ∷ steps) + among batch page n) (same_suc i ∙ eqb-true (i + 1) (length batch.pages) last) (even page) in let none : among batch page 0 ≡ 0 = refl in omega (arith, all, none)), tt))) op next reads
  counts_on (SubtractDirty i) at t c op next reads =
      let one = Subtract (group_page batch i) in
      by_op (SubtractDirty i) one
      (λ r. let even = subtract_even i c.2 in
      each_on sizes (step one ∷ steps) batch i (SubtractDirty (i + 1)) (Cleaning batch (cleaner.GiveCleanup 0))
      (λ more. (behind_so one c.0, hand_so one c.1, (λ page. subst (λ n. cleaned_of page (step one ∷ steps) + among batch page n ≡ lowered_of page (step one ∷ steps) + among batch page (length batch.pages)) (same_suc i) (even page)), tt))
      (λ last. (behind_so one c.0, hand_so one c.1, (λ page. let all = subst (λ n. cleaned_of page (step one ∷ steps) + among batch page n ≡ lowered_of page (step one ∷ steps) + among batch page (length batch.pages)) (same_suc i ∙ eqb-true (i + 1) (length batch.pages) last) (even page) in omega (arith, all)), tt))) op next reads
  counts_on (cleaner.GiveCleanup i) at t c op next reads =
      let one = cleaner.Give (CLEANUP (group_page batch i)) in
      let even = even_so one (λ page. refl) (λ page. refl) c.2 in
      by_op (cleaner.GiveCleanup i) one
      (λ r. each_on sizes (step one ∷ steps) batch i (cleaner.GiveCleanup (i + 1)) (surveying sizes owned (next_group batch)) (λ more. (behind_so one c.0, hand_so one c.1, even, tt))
      (λ last. surveys_on sizes (step one ∷ steps) owned (next_group batch) passed even (none_yet one refl t.0.retired_is) unpassable)) op next reads
    where
      whole : length batch.pages ≡ batch.count
      whole = (sound.grouped.progress.each by batch (cleaner.GiveCleanup i) at tt).whole tt

      some : i < length batch.pages
      some = facts (cleaner.GiveCleanup i) at

      passed : Behind sizes (step (cleaner.Give (CLEANUP (group_page batch i))) ∷ steps) (next_group batch)
      passed =
          let behind = behind_so (cleaner.Give (CLEANUP (group_page batch i))) c.0 in
          (batch.count ∷ behind.0, (batch.reached, hand_so (cleaner.Give (CLEANUP (group_page batch i))) c.1, ap (λ n. batch.reached + n) whole, behind.1))

      unpassable : ((next_group batch).reached == (next_group batch).tail) ≡ true → cleans_in (step (cleaner.Give (CLEANUP (group_page batch i))) ∷ steps) ≡ false
      unpassable same =
          let e = eqb-true (batch.reached + length batch.pages) batch.tail same in
          let low = (sound.grouped.progress.each by batch (cleaner.GiveCleanup i) at tt).low in
          let more = some in
          absurd (omega (arith, e, low, more))
  counts_on (RefusedReturnEntry i end) at t c op next reads =
      let one = cleaner.Return (batch.reached + i) in
      let even = even_so one (λ page. refl) (λ page. refl) c.2 in
      by_op (RefusedReturnEntry i end) one
      (λ r. if_both (λ c. Then c one) (i + 1 == end) (retreating sizes owned batch (length batch.pages)) (Cleaning batch (RefusedReturnEntry (i + 1) end))
      (λ e. retreats_on sizes (step one ∷ steps) owned batch (length batch.pages) (behind_so one c.0) even (none_yet one refl t.0.retired_is) (unclean_so one refl t.0.cleaned_is)) (λ e. (behind_so one c.0, tt, even, tt))) op next reads
  counts_on (FailedReturnEntry i end) at t c op next reads =
      let one = cleaner.Return (batch.reached + i) in
      let even = even_so one (λ page. refl) (λ page. refl) c.2 in
      let stops : stops_in (step one ∷ steps) ≡ true = c.3 in
      by_op (FailedReturnEntry i end) one
      (λ r. if_both (λ c. Then c one) (i + 1 == end) (withdrawing owned batch) (Cleaning batch (FailedReturnEntry (i + 1) end))
      (λ e. withdraws_on sizes (step one ∷ steps) owned batch (behind_so one c.0) even (none_yet one refl t.0.retired_is) (inr stops)) (λ e. (behind_so one c.0, tt, even, stops))) op next reads
  counts_on (RefusedGiveCleanup i) at t c op next reads =
      let one = cleaner.Give (CLEANUP (group_page batch i)) in
      by_op (RefusedGiveCleanup i) one
      (λ r. retreats_on sizes (step one ∷ steps) owned batch i (behind_so one c.0) (even_so one (λ page. refl) (λ page. refl) c.2) (none_yet one refl t.0.retired_is) (unclean_so one refl t.0.cleaned_is)) op next reads
  counts_on (SyncStores files) at t c op next reads = absurd (cc)
  counts_on (MoveHeaderTail calls) at t c op next reads = absurd (cc)
  counts_on (FreeEntry number) at t c op next reads =
      let one = Free number in
      let even = even_so one (λ page. refl) (λ page. refl) c.2 in
      by_op (FreeEntry number) one (λ r. if_both (λ c. Then c one) (number + 1 == batch.reached) (Cleaning batch AdvanceTail) (Cleaning batch (FreeEntry (number + 1))) (λ e. (behind_so one c.0, tt, even, tt)) (λ e. (behind_so one c.0, tt, even, tt))) op next reads
  counts_on AdvanceTail at t c op next reads =
      let one = MoveTail batch.reached in by_op AdvanceTail one (λ r. discharges_on sizes (step one ∷ steps) batch (rising_files sizes batch) (behind_so one c.0) (even_so one (λ page. refl) (λ page. refl) c.2)) op next reads
  counts_on (GiveStores []) at t c op next reads = absurd (cc)
  counts_on (GiveStores (file ∷ rest)) at t c op next reads =
      let one = cleaner.Give (STORE file) in
      by_op (GiveStores (file ∷ rest)) one (λ r. discharges_on sizes (step one ∷ steps) batch rest (behind_so one c.0) (even_so one (λ page. refl) (λ page. refl) c.2)) op next reads
  counts_on GiveHeader at t c op next reads =
      let one = cleaner.Give HEADER in by_op GiveHeader one (λ r. (behind_so one c.0, tt, even_so one (λ page. refl) (λ page. refl) c.2, tt)) op next reads
  counts_on GiveCleaner at t c op next reads =
      let one = cleaner.Give CLEANER in
      by_op GiveCleaner one (λ r. record { whole = over; dirty = even_so one (λ page. refl) (λ page. refl) c.2; left = λ refused. absurd (not_both refused (ap is_some (either_none (refusal_in sizes steps)) ∙ t.0.refused_is)) }) op next reads
    where
      not_both : {b : Bool} → b ≡ true → b ≡ false → ⊥
      not_both is is_not = cc

      over : (count : ℕ) → retired_in (step (cleaner.Give CLEANER) ∷ steps) ≡ Some count → AreWholeGroups sizes (step (cleaner.Give CLEANER) ∷ steps) (tail_in steps) count
      over count some =
          let told : Some (batch.reached - batch.tail) ≡ Some count = sym t.0.retired_is ∙ sym (either_none (retired_in steps)) ∙ some in
          let same = same_count (batch.reached - batch.tail) count told in
          let behind = behind_so (cleaner.Give CLEANER) c.0 in
          let low = t.1 in
          let tail = t.0.tail_is in
          let end : batch.reached ≡ tail_in steps + count = omega (arith, same, low, tail) in
          record {
            counts = behind.0;
            groups = subst (λ from. AreGroups sizes (step (cleaner.Give CLEANER) ∷ steps) from behind.0 (tail_in steps + count)) (sym tail) (subst (AreGroups sizes (step (cleaner.Give CLEANER) ∷ steps) batch.tail behind.0) end behind.1);
          }
  counts_on (SetStop held) at t c op next reads =
      let one = cleaner.Stop in
      let even = even_so one (λ page. refl) (λ page. refl) c.2 in
      by_op (SetStop held) one
      (λ r. if_both (λ c. Then c one) (held == 0) (withdrawing owned batch) (Cleaning batch (FailedReturnEntry 0 held)) (λ e. withdraws_on sizes (step one ∷ steps) owned batch (behind_so one c.0) even (none_yet one refl t.0.retired_is) (inr refl)) (λ e. (behind_so one c.0, tt, even, refl))) op next reads
  counts_on cleaner.GiveBack at t c op next reads =
      let gave = last_give (core.passes by).owned op next in
      let one = cleaner.Give gave.0 in
      subst (Then (withdrawing owned batch)) (sym gave.1)
      (withdraws_on sizes (step one ∷ steps) owned batch (behind_so one c.0) (even_so one (λ page. refl) (λ page. refl) c.2) (none_yet one refl t.0.retired_is) (gave_more sizes (step one) steps refl c.3))

-- ---- all steps of a batch

no_first : (op : CleanerOp) → comes_in_batch (ByCleaner op) ≡ true → IsBatchEntry (ByCleaner op) Idle → ⊥
no_first (TakeCleaner most) own entry = cc
no_first op own entry = entry

module _ (sound : RunsAreSound) (tell : OwnEventsTell) (old new : PassState) (works : List Work) (op : CleanerOp) (found : ℕ)
    (taken : HasTaken record { opens = None; works = works; op = ByCleaner op; found = found } old new) (mount : IsMount (mount_of old.view.opened)) where
  abbrev step_sizes : Sizes
  step_sizes = taken.before.view.opened.sizes

  abbrev mid : Pass
  mid = mid_pass sound tell old new works op found taken mount

  -- where it stood behind its device calls
  next_on : (steps : List PassStep) → comes_in_batch (ByCleaner op) ≡ true → (control : Control) → mid.control ≡ control → Amid step_sizes control steps (calls_refusal works) → Counted step_sizes control steps
      → Counted step_sizes (pass_of new.view).control (one_step sound tell old new works op found taken mount ∷ steps)
  next_on steps own (Cleaning batch inner) at t c =
      subst (λ c. Counted step_sizes c (one_step sound tell old new works op found taken mount ∷ steps)) (sym (ap (λ (p : Pass). p.control) taken.stepped.pass ∙ ap (after_by_cleaner step_sizes (moved (cleaner_move step_sizes op found) mid.owned) op found) at))
      (counts_on step_sizes (mount_of taken.before.view.opened).values (is_made sound tell old new works op found taken mount).core taken.before.view.number (is_made sound tell old new works op found taken mount).sound
      batch steps works found (moved (cleaner_move step_sizes op found) mid.owned) inner (at_core sound tell old new works op found taken mount steps batch inner at) t.0 c op
      (ap (λ (p : Pass). next_cleaner_op step_sizes p.owned batch inner) (is_made sound tell old new works op found taken mount).own ∙ by_core sound tell old new works op found taken mount batch inner at)
      (is_made sound tell old new works op found taken mount).may.is)
  next_on steps own Idle at t c =
      elim (subst (λ (p : Pass). (next_step step_sizes (is_made sound tell old new works op found taken mount).core.values p ≡ Some (ByCleaner op)) ⊎ IsBatchEntry (ByCleaner op) p.control) (is_made sound tell old new works op found taken mount).own (is_made sound tell old new works op found taken mount).may.may) [
        | inl next ↦ absurd (none_some (sym (ap (step_at step_sizes (is_made sound tell old new works op found taken mount).core.values mid) at) ∙ next))
        | inr entry ↦ absurd (no_first op own (subst (IsBatchEntry (ByCleaner op)) at entry))
      ]
  next_on steps own control at t c = absurd c

  pub counted_next : (steps : List PassStep) → comes_in_batch (ByCleaner op) ≡ true → Tells step_sizes (pass_of taken.before.view).control steps → Counted step_sizes (pass_of taken.before.view).control steps
      → Counted step_sizes (pass_of new.view).control (one_step sound tell old new works op found taken mount ∷ steps)
  counted_next steps own t c = next_on steps own mid.control refl (amid sound tell old new works op found taken mount steps t) (works_on step_sizes steps taken.stepped.works (values_of taken.before.view) (pass_of taken.before.view) c taken.stepped.due)

  -- the first one
  pub counted_first : (pass_of taken.before.view).control ≡ Idle → (most : ℕ) → op ≡ TakeCleaner most → Counted step_sizes (pass_of new.view).control (one_step sound tell old new works op found taken mount ∷ [])
  counted_first at most begins =
      subst (λ c. Counted step_sizes c (one_step sound tell old new works op found taken mount ∷ [])) (sym control_is)
      (subst (λ o. Counted step_sizes (begun_by o) (record { opens = None; works = works; op = ByCleaner o; found = found } ∷ [])) (sym begins)
      (if_both (λ c. Counted step_sizes c (record { opens = None; works = works; op = ByCleaner (TakeCleaner most); found = found } ∷ [])) (found == 0) (Cleaning (new_batch most) TakeHeader) Idle
      (λ e. (([], refl), tt, (λ page. refl), tt)) (λ e. record { whole = λ count some. absurd (none_some some); dirty = λ page. refl; left = λ refused. inl refl })))
    where
      begun_by : CleanerOp → Control
      begun_by o = after_by_cleaner step_sizes (moved (cleaner_move step_sizes o found) mid.owned) o found Idle

      control_is : (pass_of new.view).control ≡ begun_by op
      control_is = ap (λ (p : Pass). p.control) taken.stepped.pass ∙ ap (after_by_cleaner step_sizes (moved (cleaner_move step_sizes op found) mid.owned) op found) (ap (λ w. (pass_worked step_sizes w (pass_of taken.before.view)).control) (works_none sound tell old new works op found taken mount at) ∙ at)

the_op : Op → CleanerOp
the_op (ByCleaner op) = op
the_op op = cleaner.Stop

is_one : (op : Op) → comes_in_batch op ≡ true → op ≡ ByCleaner (the_op op)
unfolding the_op
is_one (ByCleaner op) own = refl
is_one op own = absurd (cc)

module _ (sound : RunsAreSound) (tell : OwnEventsTell) (start : PassState) (mount : IsMount (mount_of start.view.opened)) (idle : (pass_of start.view).control ≡ Idle) (most : ℕ) where
  abbrev first_sizes : Sizes
  first_sizes = start.view.opened.sizes

  module _ (step : PassStep) (old now : PassState) (same : old.view.opened ≡ start.view.opened) (taken : HasTaken step old now) (op : CleanerOp) (opens : step.opens ≡ None) (is : step.op ≡ ByCleaner op) where
    mount_old : IsMount (mount_of old.view.opened)
    mount_old = subst (λ (o : Opened). IsMount (mount_of o)) (sym same) mount

    as_shaped : HasTaken (record { opens = None; works = step.works; op = ByCleaner op; found = step.found }) old now
    as_shaped = subst (λ s. HasTaken s old now) (shape step op opens is) taken

    view_is : as_shaped.before.view ≡ old.view
    view_is = as_shaped.between.view

    conv : (steps : List PassStep) → Counted as_shaped.before.view.opened.sizes (pass_of now.view).control (record { opens = None; works = step.works; op = ByCleaner op; found = step.found } ∷ steps)
        → Counted first_sizes (pass_of now.view).control (step ∷ steps)
    conv steps c =
        subst (λ s. Counted first_sizes (pass_of now.view).control (s ∷ steps)) (sym (shape step op opens is))
        (subst (λ (o : Opened). Counted o.sizes (pass_of now.view).control (record { opens = None; works = step.works; op = ByCleaner op; found = step.found } ∷ steps)) (ap (λ (v : PassView). v.opened) view_is ∙ same) c)

    more_first : (pass_of old.view).control ≡ Idle → op ≡ TakeCleaner most → Counted first_sizes (pass_of now.view).control (step ∷ [])
    more_first at begins = conv [] (counted_first sound tell old now step.works op step.found as_shaped mount_old (ap (λ (v : PassView). (pass_of v).control) view_is ∙ at) most begins)

    more_next : (steps : List PassStep) → comes_in_batch (ByCleaner op) ≡ true → Tells first_sizes (pass_of old.view).control steps → Counted first_sizes (pass_of old.view).control steps → Counted first_sizes (pass_of now.view).control (step ∷ steps)
    more_next steps own t c =
        conv steps (counted_next sound tell old now step.works op step.found as_shaped mount_old steps own
        (subst (λ (v : PassView). Tells v.opened.sizes (pass_of v).control steps) (sym view_is) (subst (λ (o : Opened). Tells o.sizes (pass_of old.view).control steps) (sym same) t))
        (subst (λ (v : PassView). Counted v.opened.sizes (pass_of v).control steps) (sym view_is) (subst (λ (o : Opened). Counted o.sizes (pass_of old.view).control steps) (sym same) c)))

  not_none : (step : PassStep) (earlier : List PassStep) → step ∷ earlier ≡ [] → ⊥
  not_none step earlier e = cc

  pub counted_all : (steps : List PassStep) (now : PassState) → HasMade steps start now → AreOwn steps → BeginsWith most steps → Counted first_sizes (pass_of now.view).control steps
  counted_all [] now made own begins = absurd begins
  counted_all (step ∷ []) now made own begins =
      more_first step made.0 now (made_opened [] start made.0 made.1) made.2 (TakeCleaner most) own.0 begins (ap (λ (p : PassState). (pass_of p.view).control) made.1 ∙ idle) refl
  counted_all (step ∷ (other ∷ rest)) now made own begins =
      let one = is_one step.op own.1 in
      more_next step made.0 now (made_opened (other ∷ rest) start made.0 made.1) made.2 (the_op step.op) own.0 one (other ∷ rest) (subst (λ o. comes_in_batch o ≡ true) one own.1)
      (tells_all sound tell start mount idle (other ∷ rest) made.0 made.1 own.2 (not_none other rest)) (counted_all (other ∷ rest) made.0 made.1 own.2 begins)
