-- A cleaner's steps and device calls, and the log's window: what they leave cleaned and freed, and the entries that they change.
use Rattle.std.proofs.Common.{◌≡◌, ◌≢◌, ◌⊎◌, ℕ, ◌+◌, ◌-◌, ◌<◌, ◌≤◌, ◌==◌, nat_lt, not, ◌&&◌, if◌then◌else◌, List, [], ◌∷◌, length, inl, inr, refl, sym, ap, subst, ◌∙◌, arith}
use Rattle.std.proofs.lemmas.Bool.{eqb-true, cases_eq}
use Rattle.nv_header.specs.HeaderSteps.{tail_steps}
use Rattle.nv_core.specs.state.Words.{Sizes, Word, STOP, kind_of, free, ready, held, cleaned}
use Rattle.nv_core.specs.state.Values.{CallEnding, Made, Failed, Refused}
use Rattle.nv_core.specs.state.Cleaner.{Batch, CleanerControl, TakeHeader, LoadTail, LoadHead, WriteBack, CleanEntry, SubtractDirty, RefusedReturnEntry, FailedReturnEntry, RefusedGiveCleanup, SyncStores, MoveHeaderTail, FreeEntry, AdvanceTail, GiveStores, GiveCleaner, SetStop, CleanerOp, TakeCleaner, Clean, Subtract, Free, MoveTail}
use Rattle.nv_core.specs.state.Cleaner as cleaner
use Rattle.nv_core.specs.steps.CleanerSteps.{after_cleaner_op, after_cleaner_work, new_batch, withdrawing, syncing, discharging, finishing, surveying, surveyed, retreating, each_next, claimed, closed, next_group, batch_with_page, may_pass, rising_files, group_file, holds_store}
use Rattle.nv_core.specs.invariant.CleanerNumbers.{cleaned_from, cleaned_count, IsCleaned, IsFreed}
use Rattle.nv_core.specs.state.Passes.{Control, Idle, Cleaning, Pass}
use Rattle.nv_core.specs.steps.Ops.{ByCleaner, moved, cleaner_move}
use Rattle.nv_core.specs.steps.ControlSteps.{after_by_cleaner}
use Rattle.nv_core.specs.steps.Order.{Values, Work, CleanerCallDue}
use Rattle.nv_core.specs.state.Core.{Core, changed_pass, after_step}
use Rattle.nv_core.proofs.steps.ByKind.{FoundEnabledByKind}
use Rattle.nv_core.specs.invariant.LogWindow.{InWindow, entry_word_at}
use Rattle.nv_core.specs.log.Progress.{IsBeforeTail, IsBatchUnderWay}
use Rattle.nv_core.specs.invariant.Sound.{Sound}
use Rattle.nv_core.proofs.state.Changes.{word_here}
use Rattle.nv_core.proofs.state.Choices.{if_both}
use Rattle.nv_core.proofs.steps.WordLaws.{untouched}
use Rattle.nv_core.proofs.invariant.ClearLaws.{IsClear, clear_unseized, clear_filling, clear_to}
use Rattle.nv_core.proofs.steps.AtCall.{Unswept}
use Rattle.nv_core.proofs.steps.CleanerOps.{IsSteady, MadeAt, IsTending, IsMidway, tending, entering, IsDropping, CleanerReturn_it, Undoes_it, fresh_none, sole_cleaner, IsAtHand, cleaner_hold_hand, cleans_hand, cleaner_return_hand, IsAtFree, frees_hand, IsAtTail, retires_hand}
use Rattle.nv_core.proofs.invariant.WindowLaws.{Alike, OneEntry, IsRetired}

-- ---- what is cleaned and freed then

-- at a control state nothing is freed, and these numbers are cleaned, where STOP is 0 then
abbrev IsSpan : (stop from end : ℕ) → Control → Type 0
IsSpan stop from end control =
    (number : ℕ) → (IsFreed control number → ⊥) × (IsCleaned control number → (from ≤ number) × (number < end)) × (stop ≡ 0 → (from ≤ number) × (number < end) → IsCleaned control number)

-- it is about to set STOP, or has set it
abbrev IsStopping : CleanerControl → Type 0
IsStopping (FailedReturnEntry i end) = Unit {0}
IsStopping (SetStop many) = Unit {0}
IsStopping inner = ⊥

-- its step there neither cleans an entry, nor frees one, nor moves TAIL
abbrev IsEven : CleanerControl → Type 0
IsEven (CleanEntry i) = ⊥
IsEven (FreeEntry number) = ⊥
IsEven AdvanceTail = ⊥
IsEven inner = Unit {0}

module _ (stop : ℕ) where
  -- the numbers from the batch's tail on below another one
  as_span : (tail reached end n : ℕ) → end ≡ reached → ((tail ≤ n) × (n < reached + 0) → (tail ≤ n) × (n < end)) × (stop ≡ 0 → (tail ≤ n) × (n < end) → (tail ≤ n) × (n < reached + 0))
  as_span tail reached end n e = (λ is. (is.0, let h = is.1 in omega (arith, e, h)), λ _ is. (is.0, let h = is.1 in omega (arith, e, h)))

  withdraw_span : (owned : List Word) (batch : Batch) (from end : ℕ) → (stop ≡ 0 → end ≤ from) → IsSpan stop from end (withdrawing owned batch)
  withdraw_span [] batch from end none n = (λ z. z, λ z. absurd z, λ zero is. absurd (let m = none zero in let l = is.0 in let h = is.1 in omega (arith, m, l, h)))
  withdraw_span (cell ∷ rest) batch from end none n = (
    λ z. z,
    λ is. absurd (let l = is.0 in let h = is.1 in omega (arith, l, h)),
    λ zero is. absurd (let m = none zero in let l = is.0 in let h = is.1 in omega (arith, m, l, h)),
  )

  sync_span : (batch : Batch) (files : List ℕ) (end : ℕ) → end ≡ batch.reached → IsSpan stop batch.tail end (syncing batch files)
  sync_span batch [] end e n = let a = as_span batch.tail batch.reached end n e in (λ z. z, a.0, a.1)
  sync_span batch (file ∷ rest) end e n = let a = as_span batch.tail batch.reached end n e in (λ z. z, a.0, a.1)

  finish_span : (sizes : Sizes) (owned : List Word) (batch : Batch) (end : ℕ) → end ≡ batch.reached → IsSpan stop batch.tail end (finishing sizes owned batch)
  finish_span sizes owned batch end e = if_both (IsSpan stop batch.tail end) (batch.reached == batch.tail) (withdrawing owned (closed batch)) (syncing (closed batch) (rising_files sizes batch))
      (λ same. let s = eqb-true batch.reached batch.tail same in withdraw_span owned (closed batch) batch.tail end (λ _. omega (arith, s, e))) (λ _. sync_span (closed batch) (rising_files sizes batch) end e)

  at_span : (batch : Batch) (inner : CleanerControl) (end : ℕ) → ((n : ℕ) → IsFreed (Cleaning batch inner) n → ⊥) → cleaned_from batch inner ≡ batch.tail → end ≡ batch.reached + cleaned_count batch inner → IsSpan stop batch.tail end (Cleaning batch inner)
  at_span batch inner end unfreed f e n = (
    unfreed n,
    λ is. (let l = is.0 in omega (arith, l, f), let h = is.1 in omega (arith, h, e)),
    λ _ is. (let l = is.0 in omega (arith, l, f), let h = is.1 in omega (arith, h, e)),
  )

  survey_span : (sizes : Sizes) (owned : List Word) (batch : Batch) (end : ℕ) → end ≡ batch.reached → IsSpan stop batch.tail end (surveying sizes owned batch)
  survey_span sizes owned batch end e = if_both (IsSpan stop batch.tail end) (nat_lt batch.reached batch.head) (Cleaning batch (cleaner.LoadEntry 0)) (finishing sizes owned batch)
      (λ _. at_span batch (cleaner.LoadEntry 0) end (λ n z. z) refl (omega (arith, e))) (λ _. finish_span sizes owned batch end e)

  retreat_span : (sizes : Sizes) (owned : List Word) (batch : Batch) (i end : ℕ) → end ≡ batch.reached → IsSpan stop batch.tail end (retreating sizes owned batch i)
  retreat_span sizes owned batch i end e = if_both (IsSpan stop batch.tail end) (i == 0) (finishing sizes owned batch) (Cleaning batch (RefusedGiveCleanup (i - 1)))
      (λ _. finish_span sizes owned batch end e) (λ _. at_span batch (RefusedGiveCleanup (i - 1)) end (λ n z. z) refl (omega (arith, e)))

  surveyed_span : (batch : Batch) (i end : ℕ) → end ≡ batch.reached → IsSpan stop batch.tail end (surveyed batch i)
  surveyed_span batch i end e = if_both (IsSpan stop batch.tail end) (nat_lt (i + 1) batch.count) (Cleaning batch (cleaner.LoadEntry (i + 1))) (Cleaning batch (cleaner.TakeCleanup 0))
      (λ _. at_span batch (cleaner.LoadEntry (i + 1)) end (λ n z. z) refl (omega (arith, e))) (λ _. at_span batch (cleaner.TakeCleanup 0) end (λ n z. z) refl (omega (arith, e)))

  next_span : (batch : Batch) (i from end : ℕ) (inner : CleanerControl) (last : Control) → IsSpan stop from end (Cleaning batch inner) → (i + 1 ≡ length batch.pages → IsSpan stop from end last) → IsSpan stop from end (each_next batch i inner last)
  next_span batch i from end inner last more done = if_both (IsSpan stop from end) (i + 1 == length batch.pages) last (Cleaning batch inner) (λ e. done (eqb-true (i + 1) (length batch.pages) e)) (λ _. more)

  claimed_span : (sizes : Sizes) (batch : Batch) (end : ℕ) → end ≡ batch.reached → IsSpan stop batch.tail end (claimed sizes batch)
  claimed_span sizes batch end e = if_both (IsSpan stop batch.tail end) (holds_store batch (group_file sizes batch)) (Cleaning batch (cleaner.HoldEntry 0)) (Cleaning batch cleaner.TakeStore)
      (λ _. at_span batch (cleaner.HoldEntry 0) end (λ n z. z) refl (omega (arith, e))) (λ _. at_span batch cleaner.TakeStore end (λ n z. z) refl (omega (arith, e)))

  discharge_span : (batch : Batch) (files : List ℕ) → IsSpan stop batch.reached (batch.reached + 0) (discharging batch files)
  discharge_span batch [] n = (λ z. z, λ is. is, λ _ is. is)
  discharge_span batch (file ∷ rest) n = (λ z. z, λ is. is, λ _ is. is)

  -- a step at which nothing is cleaned or freed leaves what is
  pub even_span : (sizes : Sizes) (owned : List Word) (batch : Batch) (inner : CleanerControl) (found : ℕ) → IsEven inner → (IsBeforeTail inner → batch.reached ≡ batch.tail) → (IsStopping inner → stop ≡ 1)
      → IsSpan stop (cleaned_from batch inner) (batch.reached + cleaned_count batch inner) (after_cleaner_op sizes owned batch inner found)
  even_span sizes owned batch TakeHeader found even fresh stops = if_both (IsSpan stop batch.tail (batch.reached + 0)) (found == 0) (Cleaning batch cleaner.LoadStop) (withdrawing owned batch)
      (λ _ n. (λ z. z, λ is. is, λ _ is. is)) (λ _. withdraw_span owned batch batch.tail (batch.reached + 0) (λ _. let f = fresh tt in omega (arith, f)))
  even_span sizes owned batch cleaner.LoadStop found even fresh stops = if_both (IsSpan stop batch.tail (batch.reached + 0)) (found == 0) (Cleaning batch LoadTail) (withdrawing owned batch)
      (λ _ n. (λ z. z, λ is. is, λ _ is. is)) (λ _. withdraw_span owned batch batch.tail (batch.reached + 0) (λ _. let f = fresh tt in omega (arith, f)))
  even_span sizes owned batch LoadTail found even fresh stops = λ n. (
    λ z. z,
    λ is. absurd (let l = is.0 in let h = is.1 in omega (arith, l, h)),
    λ _ is. absurd (let f = fresh tt in let l = is.0 in let h = is.1 in omega (arith, f, l, h)),
  )
  even_span sizes owned batch LoadHead found even fresh stops = survey_span sizes owned (record batch { head = found }) (batch.reached + 0) (omega arith)
  even_span sizes owned batch (cleaner.LoadEntry i) found even fresh stops = if_both (IsSpan stop batch.tail (batch.reached + 0)) (i == 0 && not (may_pass batch found)) (finishing sizes owned batch) (surveyed (batch_with_page batch i found) i)
      (λ _. finish_span sizes owned batch (batch.reached + 0) (omega arith)) (λ _. surveyed_span (batch_with_page batch i found) i (batch.reached + 0) (omega arith))
  even_span sizes owned batch (cleaner.TakeCleanup i) found even fresh stops = if_both (IsSpan stop batch.tail (batch.reached + 0)) (found == 0) (each_next batch i (cleaner.TakeCleanup (i + 1)) (claimed sizes batch)) (retreating sizes owned batch i)
      (λ _. next_span batch i batch.tail (batch.reached + 0) (cleaner.TakeCleanup (i + 1)) (claimed sizes batch) (λ n. (λ z. z, λ is. is, λ _ is. is)) (λ _. claimed_span sizes batch (batch.reached + 0) (omega arith)))
      (λ _. retreat_span sizes owned batch i (batch.reached + 0) (omega arith))
  even_span sizes owned batch cleaner.TakeStore found even fresh stops =
      if_both (IsSpan stop batch.tail (batch.reached + 0)) (found == 0) (Cleaning (record batch { files = group_file sizes batch ∷ batch.files }) (cleaner.HoldEntry 0)) (retreating sizes owned batch (length batch.pages))
      (λ _ n. (λ z. z, λ is. is, λ _ is. is)) (λ _. retreat_span sizes owned batch (length batch.pages) (batch.reached + 0) (omega arith))
  even_span sizes owned batch (SubtractDirty i) found even fresh stops = next_span batch i batch.tail (batch.reached + length batch.pages) (SubtractDirty (i + 1)) (Cleaning batch (cleaner.GiveCleanup 0))
      (λ n. (λ z. z, λ is. is, λ _ is. is)) (λ _ n. (λ z. z, λ is. is, λ _ is. is))
  even_span sizes owned batch (cleaner.GiveCleanup i) found even fresh stops = next_span batch i batch.tail (batch.reached + length batch.pages) (cleaner.GiveCleanup (i + 1)) (surveying sizes owned (next_group batch))
      (λ n. (λ z. z, λ is. is, λ _ is. is)) (λ _. survey_span sizes owned (next_group batch) (batch.reached + length batch.pages) refl)
  even_span sizes owned batch (RefusedReturnEntry i end) found even fresh stops = if_both (IsSpan stop batch.tail (batch.reached + 0)) (i + 1 == end) (retreating sizes owned batch (length batch.pages)) (Cleaning batch (RefusedReturnEntry (i + 1) end))
      (λ _. retreat_span sizes owned batch (length batch.pages) (batch.reached + 0) (omega arith)) (λ _ n. (λ z. z, λ is. is, λ _ is. is))
  even_span sizes owned batch (FailedReturnEntry i end) found even fresh stops = if_both (IsSpan stop batch.tail (batch.reached + 0)) (i + 1 == end) (withdrawing owned batch) (Cleaning batch (FailedReturnEntry (i + 1) end))
      (λ _. withdraw_span owned batch batch.tail (batch.reached + 0) (λ zero. absurd (let one = stops tt in omega (arith, zero, one)))) (λ _ n. (λ z. z, λ is. is, λ _ is. is))
  even_span sizes owned batch (RefusedGiveCleanup i) found even fresh stops = retreat_span sizes owned batch i (batch.reached + 0) (omega arith)
  even_span sizes owned batch (GiveStores []) found even fresh stops = λ n. (λ z. z, λ is. is, λ _ is. is)
  even_span sizes owned batch (GiveStores (file ∷ rest)) found even fresh stops = discharge_span batch rest
  even_span sizes owned batch GiveCleaner found even fresh stops = λ n. (λ z. z, λ z. absurd z, λ _ is. absurd (let l = is.0 in let h = is.1 in omega (arith, l, h)))
  even_span sizes owned batch (SetStop many) found even fresh stops = if_both (IsSpan stop batch.tail (batch.reached + 0)) (many == 0) (withdrawing owned batch) (Cleaning batch (FailedReturnEntry 0 many))
      (λ _. withdraw_span owned batch batch.tail (batch.reached + 0) (λ zero. absurd (let one = stops tt in omega (arith, zero, one)))) (λ _ n. (λ z. z, λ is. is, λ _ is. is))
  even_span sizes owned batch cleaner.GiveBack found even fresh stops = withdraw_span owned batch batch.reached (batch.reached + 0) (λ _. omega arith)
  even_span sizes owned batch (CleanEntry i) found even fresh stops = absurd even
  even_span sizes owned batch (FreeEntry number) found even fresh stops = absurd even
  even_span sizes owned batch AdvanceTail found even fresh stops = absurd even
  even_span sizes owned batch inner found even fresh stops = λ n. (λ z. z, λ is. is, λ _ is. is)

  -- and so does a device call
  pub due_span : (sizes : Sizes) (values : Values) (work : Work) (batch : Batch) (how : CallEnding) (inner : CleanerControl) → CleanerCallDue sizes values batch work inner
      → IsSpan stop (cleaned_from batch inner) (batch.reached + cleaned_count batch inner) (after_cleaner_work batch how inner)
  due_span sizes values work batch Made (cleaner.ReadPiece i) due = λ n. (λ z. z, λ is. is, λ _ is. is)
  due_span sizes values work batch Made (WriteBack i) due = next_span batch i batch.tail (batch.reached + 0) (cleaner.HoldEntry (i + 1)) (Cleaning batch (CleanEntry 0)) (λ n. (λ z. z, λ is. is, λ _ is. is)) (λ _ n. (λ z. z, λ is. is, λ _ is. is))
  due_span sizes values work batch Made (SyncStores (file ∷ rest)) due = sync_span batch rest (batch.reached + 0) (omega arith)
  due_span sizes values work batch Made (MoveHeaderTail calls) due = if_both (IsSpan stop batch.tail (batch.reached + 0)) (calls + 1 == length (tail_steps batch.reached)) (Cleaning batch (FreeEntry batch.tail)) (Cleaning batch (MoveHeaderTail (calls + 1)))
      (λ _ n. (λ is. let l = is.0 in let h = is.1 in omega (arith, l, h), λ is. is, λ _ is. is)) (λ _ n. (λ z. z, λ is. is, λ _ is. is))
  due_span sizes values work batch (Failed came faults) (cleaner.ReadPiece i) due = λ n. (λ z. z, λ is. is, λ _ is. is)
  due_span sizes values work batch (Failed came faults) (WriteBack i) due = λ n. (λ z. z, λ is. is, λ _ is. is)
  due_span sizes values work batch (Failed came faults) (SyncStores (file ∷ rest)) due = λ n. (λ z. z, λ is. is, λ _ is. is)
  due_span sizes values work batch (Failed came faults) (MoveHeaderTail calls) due = λ n. (λ z. z, λ is. is, λ _ is. is)
  due_span sizes values work batch Refused (cleaner.ReadPiece i) due = λ n. (λ z. z, λ is. is, λ _ is. is)
  due_span sizes values work batch Refused (WriteBack i) due = λ n. (λ z. z, λ is. is, λ _ is. is)
  due_span sizes values work batch Refused (SyncStores (file ∷ rest)) due = λ n. (λ z. z, λ is. is, λ _ is. is)
  due_span sizes values work batch Refused (MoveHeaderTail calls) due = λ n. (λ z. z, λ is. is, λ _ is. is)
  due_span sizes values work batch how inner due = absurd due

even_unfreed : (batch : Batch) (inner : CleanerControl) (n : ℕ) → IsEven inner → IsFreed (Cleaning batch inner) n → ⊥
even_unfreed batch (FreeEntry number) n even is = even
even_unfreed batch AdvanceTail n even is = even
even_unfreed batch inner n even is = is

pub due_unfreed : (sizes : Sizes) (values : Values) (work : Work) (batch : Batch) (inner : CleanerControl) (n : ℕ) → CleanerCallDue sizes values batch work inner → IsFreed (Cleaning batch inner) n → ⊥
due_unfreed sizes values work batch (FreeEntry number) n due is = due
due_unfreed sizes values work batch AdvanceTail n due is = due
due_unfreed sizes values work batch inner n due is = is

-- two passes are then alike
pub span_alike : (stop : ℕ) (old new : Pass) (batch : Batch) (inner : CleanerControl) (control : Control) → old.control ≡ Cleaning batch inner → new.control ≡ control → IsClear control → ((n : ℕ) → IsFreed (Cleaning batch inner) n → ⊥)
    → IsSpan stop (cleaned_from batch inner) (batch.reached + cleaned_count batch inner) control → Alike stop old new
span_alike stop old new batch inner control was is clear unfreed span = record {
  unseized = λ n. (λ u. absurd (clear_unseized new.control new.first new.entries n now u), λ u. absurd (clear_unseized old.control old.first old.entries n before u));
  filling = λ n. (λ u. absurd (clear_filling new.control new.first new.entries n now u), λ u. absurd (clear_filling old.control old.first old.entries n before u));
  freed = λ n. (λ f. absurd ((span n).0 (subst (λ s. IsFreed s n) is f)), λ f. absurd (unfreed n (subst (λ s. IsFreed s n) was f)));
  cleaned = λ n c. subst (λ s. IsCleaned s n) (sym was) ((span n).1 (subst (λ s. IsCleaned s n) is c));
  still = λ zero n c. subst (λ s. IsCleaned s n) (sym is) ((span n).2 zero (subst (λ s. IsCleaned s n) was c));
}
  where
    now : IsClear new.control
    now = subst IsClear (sym is) clear

    before : IsClear old.control
    before = subst IsClear (sym was) tt

-- ---- steps

module _ (sizes : Sizes) (first : Values) (core : Core) (sound : Sound sizes first core) where
  -- what a pass stands at after a step of its batch
  then_at : (by found : ℕ) (cleaner_op : CleanerOp) (batch : Batch) (inner : CleanerControl) → (core.passes by).control ≡ Cleaning batch inner
      → (changed_pass sizes by core (ByCleaner cleaner_op) found).control ≡ after_cleaner_op sizes (moved (cleaner_move sizes cleaner_op found) (core.passes by).owned) batch inner found
  then_at by found cleaner_op batch inner at = ap (after_by_cleaner sizes (moved (cleaner_move sizes cleaner_op found) (core.passes by).owned) cleaner_op found) at

  -- a batch begins
  pub enters_alike : (stop by found most : ℕ) → FoundEnabledByKind sizes by core (ByCleaner (TakeCleaner most)) found → Alike stop (core.passes by) (changed_pass sizes by core (ByCleaner (TakeCleaner most)) found)
  enters_alike stop by found most may = record {
    unseized = λ n. (λ u. absurd (clear_unseized new.control new.first new.entries n now u), λ u. absurd (clear_unseized (core.passes by).control (core.passes by).first (core.passes by).entries n before u));
    filling = λ n. (λ u. absurd (clear_filling new.control new.first new.entries n now u), λ u. absurd (clear_filling (core.passes by).control (core.passes by).first (core.passes by).entries n before u));
    freed = λ n. (λ f. absurd ((none n).0 f), λ f. absurd (subst (λ s. IsFreed s n) idle f));
    cleaned = λ n c. absurd ((none n).1 c);
    still = λ zero n c. absurd (subst (λ s. IsCleaned s n) idle c);
  }
    where
      new : Pass
      new = changed_pass sizes by core (ByCleaner (TakeCleaner most)) found

      idle : (core.passes by).control ≡ Idle
      idle = entering sizes (core.passes by) most may.may

      now : IsClear (changed_pass sizes by core (ByCleaner (TakeCleaner most)) found).control
      now = clear_to sizes core.values (core.passes by) (ByCleaner (TakeCleaner most)) found tt may.may

      before : IsClear (core.passes by).control
      before = subst IsClear (sym idle) tt

      none : Unswept (changed_pass sizes by core (ByCleaner (TakeCleaner most)) found).control
      none = subst (λ s. Unswept (after_by_cleaner sizes (moved (cleaner_move sizes (TakeCleaner most) found) (core.passes by).owned) (TakeCleaner most) found s)) (sym idle)
          (if_both Unswept (found == 0) (Cleaning (new_batch most) TakeHeader) Idle (λ _ n. (λ z. z, λ is. let h = is.1 in omega (arith, h))) (λ _ n. (λ z. z, λ z. z)))

  -- a step of a batch that changes no entry, nor TAIL
  abbrev pub IsAside : CleanerOp → Type 0
  IsAside (cleaner.Load word) = Unit {0}
  IsAside (cleaner.Take cell) = Unit {0}
  IsAside (cleaner.Give cell) = Unit {0}
  IsAside (Subtract page) = Unit {0}
  IsAside cleaner.Stop = Unit {0}
  IsAside cleaner_op = ⊥

  steady_even : (inner : CleanerControl) → IsSteady inner → IsEven inner
  steady_even (CleanEntry i) steady = steady
  steady_even (FreeEntry number) steady = steady
  steady_even AdvanceTail steady = steady
  steady_even inner steady = tt

  aside_even : (batch : Batch) (inner : CleanerControl) (cleaner_op : CleanerOp) → IsAside cleaner_op → MadeAt batch inner cleaner_op → IsEven inner
  aside_even batch inner (cleaner.Load word) aside made = steady_even inner made
  aside_even batch inner (cleaner.Take cell) aside made = steady_even inner made
  aside_even batch inner (cleaner.Give cell) aside made = steady_even inner made
  aside_even batch inner (Subtract page) aside made = subst IsEven (sym made.1) tt
  aside_even batch inner cleaner.Stop aside made = subst IsEven (sym made.1) tt
  aside_even batch inner cleaner_op aside made = absurd aside

  -- STOP was set by a pass that has set it, and is by one that sets it
  was_stopped : (by : ℕ) (batch : Batch) (inner : CleanerControl) → (core.passes by).control ≡ Cleaning batch inner → IsSteady inner → IsStopping inner → core.words STOP ≡ 1
  was_stopped by batch (FailedReturnEntry i end) at steady stops = sound.grouped.progress.set_stop by batch (FailedReturnEntry i end) at tt
  was_stopped by batch (SetStop many) at steady stops = absurd steady
  was_stopped by batch inner at steady stops = absurd stops

  stopping : (by found : ℕ) (cleaner_op : CleanerOp) (batch : Batch) (inner : CleanerControl) → (core.passes by).control ≡ Cleaning batch inner → IsAside cleaner_op → MadeAt batch inner cleaner_op → FoundEnabledByKind sizes by core (ByCleaner cleaner_op) found
      → IsStopping inner → (after_step sizes by (ByCleaner cleaner_op) found core).words STOP ≡ 1
  stopping by found (cleaner.Load word) batch inner at aside made may stops = untouched sizes by core (ByCleaner (cleaner.Load word)) found may STOP refl ∙ was_stopped by batch inner at made stops
  stopping by found (cleaner.Take cell) batch inner at aside made may stops = untouched sizes by core (ByCleaner (cleaner.Take cell)) found may STOP refl ∙ was_stopped by batch inner at made stops
  stopping by found (cleaner.Give cell) batch inner at aside made may stops = untouched sizes by core (ByCleaner (cleaner.Give cell)) found may STOP refl ∙ was_stopped by batch inner at made stops
  stopping by found (Subtract page) batch inner at aside made may stops = absurd (subst IsStopping made.1 stops)
  stopping by found cleaner.Stop batch inner at aside made may stops = word_here core.words STOP 1
  stopping by found cleaner_op batch inner at aside made may stops = absurd aside

  pub aside_alike : (by found : ℕ) (cleaner_op : CleanerOp) → IsAside cleaner_op → FoundEnabledByKind sizes by core (ByCleaner cleaner_op) found
      → Alike ((after_step sizes by (ByCleaner cleaner_op) found core).words STOP) (core.passes by) (changed_pass sizes by core (ByCleaner cleaner_op) found)
  aside_alike by found cleaner_op aside may =
      span_alike ((after_step sizes by (ByCleaner cleaner_op) found core).words STOP) (core.passes by) (changed_pass sizes by core (ByCleaner cleaner_op) found) t.batch t.inner
      (after_cleaner_op sizes (moved (cleaner_move sizes cleaner_op found) (core.passes by).owned) t.batch t.inner found)
      t.control (then_at by found cleaner_op t.batch t.inner t.control)
      (subst IsClear (then_at by found cleaner_op t.batch t.inner t.control) (clear_to sizes core.values (core.passes by) (ByCleaner cleaner_op) found tt may.may))
      (λ n. even_unfreed t.batch t.inner n even)
      (even_span ((after_step sizes by (ByCleaner cleaner_op) found core).words STOP) sizes (moved (cleaner_move sizes cleaner_op found) (core.passes by).owned) t.batch t.inner found even
      (fresh_none sizes first core sound by t.batch t.inner t.control) (stopping by found cleaner_op t.batch t.inner t.control aside t.made may))
    where
      midway : (cleaner_op : CleanerOp) → IsAside cleaner_op → IsMidway cleaner_op
      midway (TakeCleaner most) aside = aside
      midway cleaner_op aside = tt

      t : IsTending (core.passes by) cleaner_op
      t = tending sizes (core.passes by) cleaner_op (midway cleaner_op aside) may.may

      even : IsEven t.inner
      even = aside_even t.batch t.inner cleaner_op aside t.made

  -- ---- the entry of a step

  -- one that is lifted or made ready again: no other pass has a hold on its number, and it is neither cleaned nor freed
  pub of_cleaner_one : (by next value kind : ℕ) (pass : Pass) (batch : Batch) (inner : CleanerControl) (control : Control) → (core.passes by).control ≡ Cleaning batch inner → pass.control ≡ control → IsClear control
      → ((n : ℕ) → IsFreed (Cleaning batch inner) n → ⊥) → IsSpan (core.words STOP) (cleaned_from batch inner) (batch.reached + cleaned_count batch inner) control
      → InWindow core next → kind_of (entry_word_at sizes core next) ≡ kind → 2 ≤ kind → kind ≤ 3 → 2 ≤ kind_of value → kind_of value ≤ 3 → OneEntry sizes core by next value pass
  of_cleaner_one by next value kind pass batch inner control was is clear unfreed span within kind_is low high new_low new_high = record {
    within = within;
    unseized = λ s u. absurd (clear_unseized pass.control pass.first pass.entries s now u);
    fills = λ s u. absurd (clear_filling pass.control pass.first pass.entries s now u);
    unseized_still = λ s u ne. absurd (clear_unseized (core.passes by).control (core.passes by).first (core.passes by).entries s before u);
    fills_still = λ s u ne. absurd (clear_filling (core.passes by).control (core.passes by).first (core.passes by).entries s before u);
    no_other_unseized = λ n ne u. let z = ap kind_of (sound.window.unseized_is n next u) in omega (arith, z, kind_is, low);
    no_other_filling = λ n ne u. let z = ap kind_of (sound.window.filling_is n next u) in omega (arith, z, kind_is, low);
    frees = λ s f. absurd ((span s).0 (subst (λ g. IsFreed g s) is f));
    frees_still = λ s f ne. absurd (unfreed s (subst (λ g. IsFreed g s) was f));
    no_other_freed = λ n ne f. let z = ap kind_of (sound.window.freed_is n next f) in omega (arith, z, kind_is, low);
    cleans = λ s c. let old = subst (λ g. IsCleaned g s) (sym was) ((span s).1 (subst (λ g. IsCleaned g s) is c)) in inl (old, λ e. not_cleaned by (subst (IsCleaned (core.passes by).control) e old));
    cleans_still = λ zero s c ne. subst (λ g. IsCleaned g s) (sym is) ((span s).2 zero (subst (λ g. IsCleaned g s) was c));
    cleans_here = λ e. absurd (omega (arith, e, new_high));
    no_other_cleaned = λ n ne c. not_cleaned n c;
    is = inr (inr (λ e. omega (arith, e, new_low), λ e. omega (arith, e, new_low)));
  }
    where
      now : IsClear pass.control
      now = subst IsClear (sym is) clear

      before : IsClear (core.passes by).control
      before = subst IsClear (sym was) tt

      not_cleaned : (n : ℕ) → IsCleaned (core.passes n).control next → ⊥
      not_cleaned n c = let k = sound.window.cleaned_is n next c in omega (arith, k, kind_is, high)

  pub cleaner_hold_one : (by found next : ℕ) → FoundEnabledByKind sizes by core (ByCleaner (cleaner.Hold next)) found → OneEntry sizes core by next (found + 1) (changed_pass sizes by core (ByCleaner (cleaner.Hold next)) found)
  cleaner_hold_one by found next may =
      let hand = cleaner_hold_hand sizes first core sound by found next may in
      let here : (core.passes by).control ≡ Cleaning t.batch (cleaner.HoldEntry t.made.0) = t.control ∙ ap (Cleaning t.batch) t.made.1 in
      of_cleaner_one by next (found + 1) ready (changed_pass sizes by core (ByCleaner (cleaner.Hold next)) found) t.batch (cleaner.HoldEntry t.made.0) (Cleaning t.batch (cleaner.ReadPiece t.made.0)) here
      (then_at by found (cleaner.Hold next) t.batch (cleaner.HoldEntry t.made.0) here) tt (λ n z. z) (λ n. (λ z. z, λ is. is, λ _ is. is)) hand.within hand.kind_is (omega arith) (omega arith)
      (let k = hand.kind_is in let f = may.is in omega (arith, k, f)) (let k = hand.kind_is in let f = may.is in omega (arith, k, f))
    where
      t : IsTending (core.passes by) (cleaner.Hold next)
      t = tending sizes (core.passes by) (cleaner.Hold next) tt may.may

  pub cleaner_return_one : (by found next : ℕ) → FoundEnabledByKind sizes by core (ByCleaner (cleaner.Return next)) found → OneEntry sizes core by next (found - 1) (changed_pass sizes by core (ByCleaner (cleaner.Return next)) found)
  cleaner_return_one by found next may = go t.made
    where
      t : IsTending (core.passes by) (cleaner.Return next)
      t = tending sizes (core.passes by) (cleaner.Return next) tt may.may

      hand : IsAtHand sizes first core sound by next held
      hand = cleaner_return_hand sizes first core sound by found next may

      made_one : (inner : CleanerControl) → (core.passes by).control ≡ Cleaning t.batch inner → IsEven inner → (IsStopping inner → core.words STOP ≡ 1) → OneEntry sizes core by next (found - 1) (changed_pass sizes by core (ByCleaner (cleaner.Return next)) found)
      made_one inner here even stops =
          of_cleaner_one by next (found - 1) held (changed_pass sizes by core (ByCleaner (cleaner.Return next)) found) t.batch inner
          (after_cleaner_op sizes (moved (cleaner_move sizes (cleaner.Return next) found) (core.passes by).owned) t.batch inner found) here
          (then_at by found (cleaner.Return next) t.batch inner here) (subst IsClear (then_at by found (cleaner.Return next) t.batch inner here) (clear_to sizes core.values (core.passes by) (ByCleaner (cleaner.Return next)) found tt may.may))
          (λ n. even_unfreed t.batch inner n even)
          (even_span (core.words STOP) sizes (moved (cleaner_move sizes (cleaner.Return next) found) (core.passes by).owned) t.batch inner found even (fresh_none sizes first core sound by t.batch inner here) stops)
          hand.within hand.kind_is (omega arith) (omega arith)
          (let k = hand.kind_is in let f = may.is in omega (arith, k, f)) (let k = hand.kind_is in let f = may.is in omega (arith, k, f))

      go : IsDropping t.batch t.inner next → OneEntry sizes core by next (found - 1) (changed_pass sizes by core (ByCleaner (cleaner.Return next)) found)
      go (CleanerReturn_it i end is n) = made_one (RefusedReturnEntry i end) (t.control ∙ ap (Cleaning t.batch) is) tt (λ z. absurd z)
      go (Undoes_it i end is n) = let here = t.control ∙ ap (Cleaning t.batch) is in made_one (FailedReturnEntry i end) here tt (λ _. sound.grouped.progress.set_stop by t.batch (FailedReturnEntry i end) here tt)

  -- one that is cleaned
  pub cleans_one : (by found next : ℕ) → FoundEnabledByKind sizes by core (ByCleaner (Clean next)) found → OneEntry sizes core by next (found + 1) (changed_pass sizes by core (ByCleaner (Clean next)) found)
  cleans_one by found next may = record {
    within = hand.within;
    unseized = λ s u. absurd (clear_unseized pass.control pass.first pass.entries s now u);
    fills = λ s u. absurd (clear_filling pass.control pass.first pass.entries s now u);
    unseized_still = λ s u ne. absurd (clear_unseized (core.passes by).control (core.passes by).first (core.passes by).entries s before u);
    fills_still = λ s u ne. absurd (clear_filling (core.passes by).control (core.passes by).first (core.passes by).entries s before u);
    no_other_unseized = λ n ne u. let z = ap kind_of (sound.window.unseized_is n next u) in let k = hand.kind_is in omega (arith, z, k);
    no_other_filling = λ n ne u. let z = ap kind_of (sound.window.filling_is n next u) in let k = hand.kind_is in omega (arith, z, k);
    frees = λ s f. absurd ((span s).0 (subst (λ g. IsFreed g s) is f));
    frees_still = λ s f ne. absurd (subst (λ g. IsFreed g s) here f);
    no_other_freed = λ n ne f. let z = ap kind_of (sound.window.freed_is n next f) in let k = hand.kind_is in omega (arith, z, k);
    cleans = λ s c. old s ((span s).1 (subst (λ g. IsCleaned g s) is c));
    cleans_still = λ zero s c ne. subst (λ g. IsCleaned g s) (sym is) ((span s).2 zero (let u : (t.batch.tail ≤ s) × (s < t.batch.reached + t.made.0) = subst (λ g. IsCleaned g s) here c in (u.0, let h = u.1 in omega (arith, h))));
    cleans_here = λ _. subst (λ g. IsCleaned g next) (sym is) (here_now next (let n = t.made.2 in let l = way.low in omega (arith, n, l)) (let n = t.made.2 in omega (arith, n)));
    no_other_cleaned = λ n ne c. let k = sound.window.cleaned_is n next c in let h = hand.kind_is in omega (arith, k, h);
    is = inr (inr (let k = hand.kind_is in let f = may.is in (λ e. omega (arith, e, k, f), λ e. omega (arith, e, k, f))));
  }
    where
      t : IsTending (core.passes by) (Clean next)
      t = tending sizes (core.passes by) (Clean next) tt may.may

      pass : Pass
      pass = changed_pass sizes by core (ByCleaner (Clean next)) found

      hand : IsAtHand sizes first core sound by next held
      hand = cleans_hand sizes first core sound by found next may

      here : (core.passes by).control ≡ Cleaning t.batch (CleanEntry t.made.0)
      here = t.control ∙ ap (Cleaning t.batch) t.made.1

      way : IsBatchUnderWay sizes sound.grouped.log core t.batch (CleanEntry t.made.0)
      way = sound.grouped.progress.each by t.batch (CleanEntry t.made.0) here tt

      is : (changed_pass sizes by core (ByCleaner (Clean next)) found).control ≡ each_next t.batch t.made.0 (CleanEntry (t.made.0 + 1)) (Cleaning t.batch (SubtractDirty 0))
      is = then_at by found (Clean next) t.batch (CleanEntry t.made.0) here

      now : IsClear (changed_pass sizes by core (ByCleaner (Clean next)) found).control
      now = clear_to sizes core.values (core.passes by) (ByCleaner (Clean next)) found tt may.may

      before : IsClear (core.passes by).control
      before = subst IsClear (sym here) tt

      -- all up to this one are cleaned then
      all_span : (n : ℕ) → (IsFreed (each_next t.batch t.made.0 (CleanEntry (t.made.0 + 1)) (Cleaning t.batch (SubtractDirty 0))) n → ⊥)
          × (IsCleaned (each_next t.batch t.made.0 (CleanEntry (t.made.0 + 1)) (Cleaning t.batch (SubtractDirty 0))) n → (t.batch.tail ≤ n) × (n < t.batch.reached + (t.made.0 + 1)))
          × ((t.batch.tail ≤ n) × (n < t.batch.reached + (t.made.0 + 1)) → IsCleaned (each_next t.batch t.made.0 (CleanEntry (t.made.0 + 1)) (Cleaning t.batch (SubtractDirty 0))) n)
      all_span n = if_both (λ s. (IsFreed s n → ⊥) × (IsCleaned s n → (t.batch.tail ≤ n) × (n < t.batch.reached + (t.made.0 + 1))) × ((t.batch.tail ≤ n) × (n < t.batch.reached + (t.made.0 + 1)) → IsCleaned s n))
          (t.made.0 + 1 == length t.batch.pages) (Cleaning t.batch (SubtractDirty 0)) (Cleaning t.batch (CleanEntry (t.made.0 + 1)))
          (λ e. let l = eqb-true (t.made.0 + 1) (length t.batch.pages) e in (λ z. z, λ c. (c.0, let h = c.1 in omega (arith, h, l)), λ c. (c.0, let h = c.1 in omega (arith, h, l))))
          (λ _. (λ z. z, λ c. c, λ c. c))

      span : (n : ℕ) → (IsFreed (each_next t.batch t.made.0 (CleanEntry (t.made.0 + 1)) (Cleaning t.batch (SubtractDirty 0))) n → ⊥)
          × (IsCleaned (each_next t.batch t.made.0 (CleanEntry (t.made.0 + 1)) (Cleaning t.batch (SubtractDirty 0))) n → (t.batch.tail ≤ n) × (n < t.batch.reached + (t.made.0 + 1)))
          × (core.words STOP ≡ 0 → (t.batch.tail ≤ n) × (n < t.batch.reached + (t.made.0 + 1)) → IsCleaned (each_next t.batch t.made.0 (CleanEntry (t.made.0 + 1)) (Cleaning t.batch (SubtractDirty 0))) n)
      span n = let a = all_span n in (a.0, a.1, λ _. a.2)

      here_now : (n : ℕ) → t.batch.tail ≤ n → n < t.batch.reached + (t.made.0 + 1) → IsCleaned (each_next t.batch t.made.0 (CleanEntry (t.made.0 + 1)) (Cleaning t.batch (SubtractDirty 0))) n
      here_now n low high = (all_span n).2 (low, high)

      old : (s : ℕ) → (t.batch.tail ≤ s) × (s < t.batch.reached + (t.made.0 + 1)) → (IsCleaned (core.passes by).control s × (s ≢ next)) ⊎ ((s ≡ next) × (kind_of (found + 1) ≡ cleaned))
      old s c = elim (cases_eq s next) [
        | inl e ↦ inr (e, let k = hand.kind_is in let f = may.is in omega (arith, k, f))
        | inr ne ↦ inl (subst (λ g. IsCleaned g s) (sym here) (c.0, let h = c.1 in let n = t.made.2 in omega (arith, h, n, ne)), ne)
      ]

  -- and one that is freed
  pub frees_one : (by found next : ℕ) → FoundEnabledByKind sizes by core (ByCleaner (Free next)) found → OneEntry sizes core by next free (changed_pass sizes by core (ByCleaner (Free next)) found)
  frees_one by found next may = record {
    within = hand.within;
    unseized = λ s u. absurd (clear_unseized pass.control pass.first pass.entries s now u);
    fills = λ s u. absurd (clear_filling pass.control pass.first pass.entries s now u);
    unseized_still = λ s u ne. absurd (clear_unseized (core.passes by).control (core.passes by).first (core.passes by).entries s before u);
    fills_still = λ s u ne. absurd (clear_filling (core.passes by).control (core.passes by).first (core.passes by).entries s before u);
    no_other_unseized = λ n ne u. let z = ap kind_of (sound.window.unseized_is n next u) in let k = hand.kind_is in omega (arith, z, k);
    no_other_filling = λ n ne u. let z = ap kind_of (sound.window.filling_is n next u) in let k = hand.kind_is in omega (arith, z, k);
    frees = λ s f. elim (cases_eq s next) [
      | inl e ↦ inr (e, refl)
      | inr ne ↦ inl (subst (λ g. IsFreed g s) (sym hand.control) (let u = (all_span s).0 (subst (λ g. IsFreed g s) is f) in (u.0, let h = u.1 in omega (arith, h, ne))), ne)
    ];
    frees_still = λ s f ne. subst (λ g. IsFreed g s) (sym is) ((all_span s).1 (let u : (hand.batch.tail ≤ s) × (s < next) = subst (λ g. IsFreed g s) hand.control f in (u.0, let h = u.1 in omega (arith, h))));
    no_other_freed = λ n ne. (sole_cleaner sizes first core sound by hand.batch (FreeEntry next) hand.control tt n ne next).0;
    cleans = λ s c. let u = (all_span s).2 (subst (λ g. IsCleaned g s) is c) in
        inl (subst (λ g. IsCleaned g s) (sym hand.control) (let l = u.0 in omega (arith, l), let h = u.1 in omega (arith, h)), let l = u.0 in omega (arith, l));
    cleans_still = λ zero s c ne. subst (λ g. IsCleaned g s) (sym is) (still s (let u : (next ≤ s) × (s < hand.batch.reached + 0) = subst (λ g. IsCleaned g s) hand.control c in (let l = u.0 in omega (arith, l, ne), let h = u.1 in omega (arith, h))));
    cleans_here = λ e. absurd (omega (arith, e));
    no_other_cleaned = λ n ne. (sole_cleaner sizes first core sound by hand.batch (FreeEntry next) hand.control tt n ne next).1;
    is = inr (inl (subst (λ g. IsFreed g next) (sym is) ((all_span next).1 (hand.low, omega arith))));
  }
    where
      hand : IsAtFree sizes first core sound by next
      hand = frees_hand sizes first core sound by found next may

      pass : Pass
      pass = changed_pass sizes by core (ByCleaner (Free next)) found

      is : (changed_pass sizes by core (ByCleaner (Free next)) found).control ≡ (if next + 1 == hand.batch.reached then Cleaning hand.batch AdvanceTail else Cleaning hand.batch (FreeEntry (next + 1)))
      is = then_at by found (Free next) hand.batch (FreeEntry next) hand.control

      now : IsClear (changed_pass sizes by core (ByCleaner (Free next)) found).control
      now = clear_to sizes core.values (core.passes by) (ByCleaner (Free next)) found tt may.may

      before : IsClear (core.passes by).control
      before = subst IsClear (sym hand.control) tt

      all_span : (n : ℕ) → (IsFreed (if next + 1 == hand.batch.reached then Cleaning hand.batch AdvanceTail else Cleaning hand.batch (FreeEntry (next + 1))) n → (hand.batch.tail ≤ n) × (n < next + 1))
          × ((hand.batch.tail ≤ n) × (n < next + 1) → IsFreed (if next + 1 == hand.batch.reached then Cleaning hand.batch AdvanceTail else Cleaning hand.batch (FreeEntry (next + 1))) n)
          × (IsCleaned (if next + 1 == hand.batch.reached then Cleaning hand.batch AdvanceTail else Cleaning hand.batch (FreeEntry (next + 1))) n → (next + 1 ≤ n) × (n < hand.batch.reached))
      all_span n = if_both (λ s. (IsFreed s n → (hand.batch.tail ≤ n) × (n < next + 1)) × ((hand.batch.tail ≤ n) × (n < next + 1) → IsFreed s n) × (IsCleaned s n → (next + 1 ≤ n) × (n < hand.batch.reached)))
          (next + 1 == hand.batch.reached) (Cleaning hand.batch AdvanceTail) (Cleaning hand.batch (FreeEntry (next + 1)))
          (λ e. let l = eqb-true (next + 1) hand.batch.reached e in (λ f. (f.0, let h = f.1 in omega (arith, h, l)), λ f. (f.0, let h = f.1 in omega (arith, h, l)), λ c. absurd (let a = c.0 in let b = c.1 in omega (arith, a, b))))
          (λ _. (λ f. f, λ f. f, λ c. (c.0, let h = c.1 in omega (arith, h))))

      still : (n : ℕ) → (next + 1 ≤ n) × (n < hand.batch.reached) → IsCleaned (if next + 1 == hand.batch.reached then Cleaning hand.batch AdvanceTail else Cleaning hand.batch (FreeEntry (next + 1))) n
      still n c = if_both (λ s. IsCleaned s n) (next + 1 == hand.batch.reached) (Cleaning hand.batch AdvanceTail) (Cleaning hand.batch (FreeEntry (next + 1)))
          (λ e. absurd (let l = eqb-true (next + 1) hand.batch.reached e in let a = c.0 in let b = c.1 in omega (arith, a, b, l))) (λ _. (c.0, let h = c.1 in omega (arith, h)))

  -- TAIL moves
  pub retires_one : (by found tail : ℕ) → FoundEnabledByKind sizes by core (ByCleaner (MoveTail tail)) found → IsRetired sizes core by tail (changed_pass sizes by core (ByCleaner (MoveTail tail)) found)
  retires_one by found tail may = record {
    low = hand.low;
    high = hand.high;
    freed = λ s low less. subst (λ g. IsFreed g s) (sym hand.control) (let w = hand.was in omega (arith, w, low), let i = hand.is in omega (arith, i, less));
    freed_below = λ s f. let u : (hand.batch.tail ≤ s) × (s < hand.batch.reached) = subst (λ g. IsFreed g s) hand.control f in let h = u.1 in let i = hand.is in omega (arith, h, i);
    none_cleaned = λ s c. let u : (hand.batch.reached ≤ s) × (s < hand.batch.reached + 0) = subst (λ g. IsCleaned g s) hand.control c in let l = u.0 in let h = u.1 in omega (arith, l, h);
    none_unseized = λ s. (clear_unseized (core.passes by).control (core.passes by).first (core.passes by).entries s before, clear_unseized pass.control pass.first pass.entries s now);
    none_filling = λ s. (clear_filling (core.passes by).control (core.passes by).first (core.passes by).entries s before, clear_filling pass.control pass.first pass.entries s now);
    unswept = λ n. let d = discharge_span (core.words STOP) hand.batch (rising_files sizes hand.batch) n in
        (λ f. d.0 (subst (λ g. IsFreed g n) is f), λ c. let u = d.1 (subst (λ g. IsCleaned g n) is c) in let l = u.0 in let h = u.1 in omega (arith, l, h));
    others = sole_cleaner sizes first core sound by hand.batch AdvanceTail hand.control tt;
  }
    where
      hand : IsAtTail sizes first core sound by tail
      hand = retires_hand sizes first core sound by found tail may

      pass : Pass
      pass = changed_pass sizes by core (ByCleaner (MoveTail tail)) found

      is : (changed_pass sizes by core (ByCleaner (MoveTail tail)) found).control ≡ discharging hand.batch (rising_files sizes hand.batch)
      is = then_at by found (MoveTail tail) hand.batch AdvanceTail hand.control

      now : IsClear (changed_pass sizes by core (ByCleaner (MoveTail tail)) found).control
      now = clear_to sizes core.values (core.passes by) (ByCleaner (MoveTail tail)) found tt may.may

      before : IsClear (core.passes by).control
      before = subst IsClear (sym hand.control) tt
