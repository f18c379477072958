-- A cleaner's tails: what a cleaner's step or device call leaves of what is written back and synced, and how the tails stand to it.
use Rattle.std.proofs.Common.{◌≡◌, ℕ, ◌+◌, ◌-◌, ◌<◌, ◌==◌, nat_lt, not, ◌&&◌, true, if◌then◌else◌, List, [], ◌∷◌, length, refl, ◌∙◌, arith}
use Rattle.std.proofs.lemmas.Bool.{eqb-true}
use Rattle.nv_core.specs.state.Words.{Sizes, Word}
use Rattle.nv_core.specs.state.Cleaner.{Batch, CleanerControl, TakeHeader, LoadTail, LoadHead, WriteBack, CleanEntry, SubtractDirty, RefusedReturnEntry, FailedReturnEntry, RefusedGiveCleanup, SyncStores, MoveHeaderTail, FreeEntry, AdvanceTail, GiveStores, GiveHeader, GiveCleaner, SetStop}
use Rattle.nv_core.specs.state.Cleaner as cleaner
use Rattle.nv_core.specs.steps.CleanerSteps.{after_cleaner_op, withdrawing, syncing, discharging, finishing, surveying, surveyed, retreating, each_next, claimed, closed, next_group, batch_with_page, may_pass, rising_files, group_file, holds_store}
use Rattle.nv_core.specs.invariant.CleanerOwnership.{count_in}
use Rattle.nv_core.specs.state.Passes.{Control, Cleaning}
use Rattle.nv_core.specs.log.Tails.{Tails}
use Rattle.nv_core.specs.log.Progress.{HasLoadedTail}
use Rattle.nv_core.specs.log.Retiring.{IsWrittenBack, IsSynced, TailsAt}
use Rattle.nv_core.proofs.state.Choices.{if_both, when_true}
use Rattle.nv_core.proofs.invariant.CleanerLocks.{rising_count}

-- nothing is written back or synced there, and the tails stand so where they aren't moved
pub record Settles (tails : Tails) (control : Control) : Type 0 where
  pub none : (n : ℕ) → IsWrittenBack control n → ⊥
  pub unsynced : (file : ℕ) → IsSynced control file → ⊥
  pub at : tails.calls ≡ 0 → TailsAt tails control

-- what is written back and synced then was so before, and the tails stand so
pub record KeepsOn (tails : Tails) (was after : Control) : Type 0 where
  pub back : (n : ℕ) → IsWrittenBack after n → IsWrittenBack was n
  pub synced : (file : ℕ) → IsSynced after file → IsSynced was file
  pub at : TailsAt tails after

-- the files of a batch are there
abbrev pub KnowsFiles : Sizes → Batch → Type 0
KnowsFiles sizes batch = (file : ℕ) → holds_store batch file ≡ true → file < sizes.files

module _ (sizes : Sizes) (tails : Tails) where
  settled : (was after : Control) → Settles tails after → tails.calls ≡ 0 → KeepsOn tails was after
  settled was after is none = record { back = λ n b. absurd (is.none n b); synced = λ file s. absurd (is.unsynced file s); at = is.at none }

  withdrawn : (owned : List Word) (batch : Batch) → Settles tails (withdrawing owned batch)
  withdrawn [] batch = record { none = λ _ z. z; unsynced = λ _ z. z; at = λ _. tt }
  withdrawn (cell ∷ rest) batch = record { none = λ _ z. z; unsynced = λ _ z. z; at = λ _. tt }

  on_withdrawn : (was : Control) (owned : List Word) (batch : Batch) → KeepsOn tails was (withdrawing owned batch)
  on_withdrawn was [] batch = record { back = λ _ z. absurd z; synced = λ _ z. absurd z; at = tt }
  on_withdrawn was (cell ∷ rest) batch = record { back = λ _ z. absurd z; synced = λ _ z. absurd z; at = tt }

  syncs : (batch : Batch) (files : List ℕ) → ((file : ℕ) → holds_store batch file ≡ true → count_in files file ≡ 0 → ⊥) → Settles tails (syncing (closed batch) files)
  syncs batch [] all = record { none = λ _ z. z; unsynced = λ file is. all file is refl; at = λ e. e }
  syncs batch (file ∷ rest) all = record { none = λ _ z. z; unsynced = λ other is. all other is.0 is.1; at = λ e. e }

  finished : (owned : List Word) (batch : Batch) → KnowsFiles sizes batch → Settles tails (finishing sizes owned batch)
  finished owned batch known = if_both (Settles tails) (batch.reached == batch.tail) (withdrawing owned (closed batch)) (syncing (closed batch) (rising_files sizes batch)) (λ _. withdrawn owned (closed batch))
      (λ _. syncs batch (rising_files sizes batch) (λ file holds none. let e : count_in (rising_files sizes batch) file ≡ 1 = rising_count sizes batch file (known file) ∙ when_true (holds_store batch file) 1 0 holds in omega (arith, e, none)))

  surveys : (owned : List Word) (batch : Batch) → KnowsFiles sizes batch → Settles tails (surveying sizes owned batch)
  surveys owned batch known = if_both (Settles tails) (nat_lt batch.reached batch.head) (Cleaning batch (cleaner.LoadEntry 0)) (finishing sizes owned batch) (λ _. record { none = λ _ z. z; unsynced = λ _ z. z; at = λ e. e }) (λ _. finished owned batch known)

  retreats : (owned : List Word) (batch : Batch) (i : ℕ) → KnowsFiles sizes batch → Settles tails (retreating sizes owned batch i)
  retreats owned batch i known = if_both (Settles tails) (i == 0) (finishing sizes owned batch) (Cleaning batch (RefusedGiveCleanup (i - 1))) (λ _. finished owned batch known) (λ _. record { none = λ _ z. z; unsynced = λ _ z. z; at = λ e. e })

  surveyed_on : (batch : Batch) (i : ℕ) → Settles tails (surveyed batch i)
  surveyed_on batch i = if_both (Settles tails) (nat_lt (i + 1) batch.count) (Cleaning batch (cleaner.LoadEntry (i + 1))) (Cleaning batch (cleaner.TakeCleanup 0)) (λ _. record { none = λ _ z. z; unsynced = λ _ z. z; at = λ e. e }) (λ _. record { none = λ _ z. z; unsynced = λ _ z. z; at = λ e. e })

  lifting_first : (batch : Batch) → Settles tails (Cleaning batch (cleaner.HoldEntry 0))
  lifting_first batch = record { none = λ n is. let l = is.0 in let h = is.1 in omega (arith, l, h); unsynced = λ _ z. z; at = λ e. e }

  claims : (batch : Batch) → Settles tails (claimed sizes batch)
  claims batch = if_both (Settles tails) (holds_store batch (group_file sizes batch)) (Cleaning batch (cleaner.HoldEntry 0)) (Cleaning batch cleaner.TakeStore) (λ _. lifting_first batch) (λ _. record { none = λ _ z. z; unsynced = λ _ z. z; at = λ e. e })

  next_on : (batch : Batch) (i : ℕ) (inner : CleanerControl) (last : Control) → Settles tails (Cleaning batch inner) → Settles tails last → Settles tails (each_next batch i inner last)
  next_on batch i inner last more done = if_both (Settles tails) (i + 1 == length batch.pages) last (Cleaning batch inner) (λ _. done) (λ _. more)

  discharges : (batch : Batch) (files : List ℕ) → Settles tails (discharging batch files)
  discharges batch [] = record { none = λ _ z. z; unsynced = λ _ z. z; at = λ e. e }
  discharges batch (file ∷ rest) = record { none = λ _ z. z; unsynced = λ _ z. z; at = λ e. e }

  -- a cleaner's step
  pub of_cleaner_on : (owned : List Word) (batch : Batch) (inner : CleanerControl) (found : ℕ) → (HasLoadedTail inner → KnowsFiles sizes batch) → (inner ≡ cleaner.LoadStop → found ≡ 0 → tails.calls ≡ 0) → TailsAt tails (Cleaning batch inner)
      → KeepsOn tails (Cleaning batch inner) (after_cleaner_op sizes owned batch inner found)
  of_cleaner_on owned batch TakeHeader found known stop_loaded at = if_both (KeepsOn tails (Cleaning batch TakeHeader)) (found == 0) (Cleaning batch cleaner.LoadStop) (withdrawing owned batch)
      (λ _. record { back = λ _ z. z; synced = λ _ z. z; at = tt }) (λ _. on_withdrawn (Cleaning batch TakeHeader) owned batch)
  of_cleaner_on owned batch cleaner.LoadStop found known stop_loaded at = if_both (KeepsOn tails (Cleaning batch cleaner.LoadStop)) (found == 0) (Cleaning batch LoadTail) (withdrawing owned batch)
      (λ e. record { back = λ _ z. z; synced = λ _ z. z; at = stop_loaded refl (eqb-true found 0 e) }) (λ _. on_withdrawn (Cleaning batch cleaner.LoadStop) owned batch)
  of_cleaner_on owned batch LoadTail found known stop_loaded at = record { back = λ _ z. z; synced = λ _ z. z; at = at }
  of_cleaner_on owned batch LoadHead found known stop_loaded at = settled (Cleaning batch LoadHead) (surveying sizes owned (record batch { head = found })) (surveys owned (record batch { head = found }) (known tt)) at
  of_cleaner_on owned batch (cleaner.LoadEntry i) found known stop_loaded at = settled (Cleaning batch (cleaner.LoadEntry i)) (if i == 0 && not (may_pass batch found) then finishing sizes owned batch else surveyed (batch_with_page batch i found) i)
      (if_both (Settles tails) (i == 0 && not (may_pass batch found)) (finishing sizes owned batch) (surveyed (batch_with_page batch i found) i) (λ _. finished owned batch (known tt)) (λ _. surveyed_on (batch_with_page batch i found) i)) at
  of_cleaner_on owned batch (cleaner.TakeCleanup i) found known stop_loaded at = settled (Cleaning batch (cleaner.TakeCleanup i)) (if found == 0 then each_next batch i (cleaner.TakeCleanup (i + 1)) (claimed sizes batch) else retreating sizes owned batch i)
      (if_both (Settles tails) (found == 0) (each_next batch i (cleaner.TakeCleanup (i + 1)) (claimed sizes batch)) (retreating sizes owned batch i)
      (λ _. next_on batch i (cleaner.TakeCleanup (i + 1)) (claimed sizes batch) (record { none = λ _ z. z; unsynced = λ _ z. z; at = λ e. e }) (claims batch)) (λ _. retreats owned batch i (known tt))) at
  of_cleaner_on owned batch cleaner.TakeStore found known stop_loaded at = settled (Cleaning batch cleaner.TakeStore) (if found == 0 then Cleaning (record batch { files = group_file sizes batch ∷ batch.files }) (cleaner.HoldEntry 0) else retreating sizes owned batch (length batch.pages))
      (if_both (Settles tails) (found == 0) (Cleaning (record batch { files = group_file sizes batch ∷ batch.files }) (cleaner.HoldEntry 0)) (retreating sizes owned batch (length batch.pages))
      (λ _. lifting_first (record batch { files = group_file sizes batch ∷ batch.files })) (λ _. retreats owned batch (length batch.pages) (known tt))) at
  of_cleaner_on owned batch (cleaner.HoldEntry i) found known stop_loaded at = record { back = λ _ z. z; synced = λ _ z. z; at = at }
  of_cleaner_on owned batch (cleaner.ReadPiece i) found known stop_loaded at = record { back = λ _ z. z; synced = λ _ z. z; at = at }
  of_cleaner_on owned batch (WriteBack i) found known stop_loaded at = record { back = λ _ z. z; synced = λ _ z. z; at = at }
  of_cleaner_on owned batch (CleanEntry i) found known stop_loaded at = if_both (KeepsOn tails (Cleaning batch (CleanEntry i))) (i + 1 == length batch.pages) (Cleaning batch (SubtractDirty 0)) (Cleaning batch (CleanEntry (i + 1)))
      (λ _. record { back = λ _ z. absurd z; synced = λ _ z. z; at = at })
      (λ _. record { back = λ n is. (let l = is.0 in omega (arith, l), is.1); synced = λ _ z. z; at = at })
  of_cleaner_on owned batch (SubtractDirty i) found known stop_loaded at = settled (Cleaning batch (SubtractDirty i)) (each_next batch i (SubtractDirty (i + 1)) (Cleaning batch (cleaner.GiveCleanup 0)))
      (next_on batch i (SubtractDirty (i + 1)) (Cleaning batch (cleaner.GiveCleanup 0)) (record { none = λ _ z. z; unsynced = λ _ z. z; at = λ e. e }) (record { none = λ _ z. z; unsynced = λ _ z. z; at = λ e. e })) at
  of_cleaner_on owned batch (cleaner.GiveCleanup i) found known stop_loaded at = settled (Cleaning batch (cleaner.GiveCleanup i)) (each_next batch i (cleaner.GiveCleanup (i + 1)) (surveying sizes owned (next_group batch)))
      (next_on batch i (cleaner.GiveCleanup (i + 1)) (surveying sizes owned (next_group batch)) (record { none = λ _ z. z; unsynced = λ _ z. z; at = λ e. e }) (surveys owned (next_group batch) (known tt))) at
  of_cleaner_on owned batch (RefusedReturnEntry i end) found known stop_loaded at = settled (Cleaning batch (RefusedReturnEntry i end)) (if i + 1 == end then retreating sizes owned batch (length batch.pages) else Cleaning batch (RefusedReturnEntry (i + 1) end))
      (if_both (Settles tails) (i + 1 == end) (retreating sizes owned batch (length batch.pages)) (Cleaning batch (RefusedReturnEntry (i + 1) end)) (λ _. retreats owned batch (length batch.pages) (known tt)) (λ _. record { none = λ _ z. z; unsynced = λ _ z. z; at = λ e. e })) at
  of_cleaner_on owned batch (FailedReturnEntry i end) found known stop_loaded at = if_both (KeepsOn tails (Cleaning batch (FailedReturnEntry i end))) (i + 1 == end) (withdrawing owned batch) (Cleaning batch (FailedReturnEntry (i + 1) end))
      (λ _. on_withdrawn (Cleaning batch (FailedReturnEntry i end)) owned batch) (λ _. record { back = λ _ z. z; synced = λ _ z. z; at = tt })
  of_cleaner_on owned batch (RefusedGiveCleanup i) found known stop_loaded at = settled (Cleaning batch (RefusedGiveCleanup i)) (retreating sizes owned batch i) (retreats owned batch i (known tt)) at
  of_cleaner_on owned batch (SyncStores files) found known stop_loaded at = record { back = λ _ z. z; synced = λ _ z. z; at = at }
  of_cleaner_on owned batch (MoveHeaderTail calls) found known stop_loaded at = record { back = λ _ z. z; synced = λ _ z. z; at = at }
  of_cleaner_on owned batch (FreeEntry number) found known stop_loaded at = if_both (KeepsOn tails (Cleaning batch (FreeEntry number))) (number + 1 == batch.reached) (Cleaning batch AdvanceTail) (Cleaning batch (FreeEntry (number + 1)))
      (λ _. record { back = λ _ z. z; synced = λ _ z. z; at = at }) (λ _. record { back = λ _ z. z; synced = λ _ z. z; at = at })
  of_cleaner_on owned batch AdvanceTail found known stop_loaded at = settled (Cleaning batch AdvanceTail) (discharging batch (rising_files sizes batch)) (discharges batch (rising_files sizes batch)) at.1
  of_cleaner_on owned batch (GiveStores []) found known stop_loaded at = record { back = λ _ z. z; synced = λ _ z. z; at = at }
  of_cleaner_on owned batch (GiveStores (file ∷ rest)) found known stop_loaded at = settled (Cleaning batch (GiveStores (file ∷ rest))) (discharging batch rest) (discharges batch rest) at
  of_cleaner_on owned batch GiveHeader found known stop_loaded at = record { back = λ _ z. z; synced = λ _ z. z; at = tt }
  of_cleaner_on owned batch GiveCleaner found known stop_loaded at = record { back = λ _ z. z; synced = λ _ z. z; at = tt }
  of_cleaner_on owned batch (SetStop held) found known stop_loaded at = if_both (KeepsOn tails (Cleaning batch (SetStop held))) (held == 0) (withdrawing owned batch) (Cleaning batch (FailedReturnEntry 0 held))
      (λ _. on_withdrawn (Cleaning batch (SetStop held)) owned batch) (λ _. record { back = λ _ z. z; synced = λ _ z. z; at = tt })
  of_cleaner_on owned batch cleaner.GiveBack found known stop_loaded at = on_withdrawn (Cleaning batch cleaner.GiveBack) owned batch
