-- A cleaner's control states: where it stands before a step or a device call, and after it.
use Rattle.std.proofs.Common.{◌≡◌, ℕ, ◌+◌, ◌-◌, ◌==◌, nat_lt, not, ◌&&◌, List, [], ◌∷◌, length}
use Rattle.std.specs.Prelude.{Some}
use Rattle.nv_header.specs.HeaderSteps.{tail_steps}
use Rattle.nv_core.specs.state.Words.{Sizes, Word}
use Rattle.nv_core.specs.state.Values.{CallEnding, Made, Failed, Refused}
use Rattle.nv_core.specs.state.Cleaner.{Batch, CleanerControl, TakeHeader, LoadTail, LoadHead, WriteBack, CleanEntry, SubtractDirty, RefusedReturnEntry, FailedReturnEntry, RefusedGiveCleanup, SyncStores, MoveHeaderTail, FreeEntry, AdvanceTail, GiveStores, GiveHeader, GiveCleaner, SetStop, CleanerOp, TakeCleaner}
use Rattle.nv_core.specs.state.Cleaner as cleaner
use Rattle.nv_core.specs.steps.CleanerSteps.{next_cleaner_op, after_cleaner_op, after_cleaner_work, new_batch, withdrawing, syncing, discharging, finishing, surveying, surveyed, retreating, each_next, claimed, closed, next_group, batch_with_page, may_pass, rising_files, group_file, holds_store}
use Rattle.nv_core.specs.state.Passes.{Control, Idle, Cleaning, Pass}
use Rattle.nv_core.specs.steps.ControlSteps.{after_by_cleaner}
use Rattle.nv_core.specs.steps.StepKinds.{CleanerEnabled}
use Rattle.nv_core.proofs.state.Choices.{if_both}

-- a cleaner that may make a step is idle, and begins a batch, or it is at its batch, and makes the step that is next
pub tended : (P : CleanerOp → Control → Type 0) (sizes : Sizes) (pass : Pass) (cleaner_op : CleanerOp) (control : Control) → CleanerEnabled sizes pass cleaner_op control → ((most : ℕ) → P (TakeCleaner most) Idle)
    → ((batch : Batch) (inner : CleanerControl) → next_cleaner_op sizes pass.owned batch inner ≡ Some cleaner_op → P cleaner_op (Cleaning batch inner)) → P cleaner_op control
tended P sizes pass cleaner_op (Cleaning batch inner) may enters goes = goes batch inner may
tended P sizes pass (TakeCleaner most) Idle may enters goes = enters most
tended P sizes pass cleaner_op control may enters goes = absurd may

-- after a step or a device call it is idle or at a batch
module _ (P : Control → Type 0) (idle : P Idle) (cleaning : (batch : Batch) (inner : CleanerControl) → P (Cleaning batch inner)) where
  to_withdrawing : (owned : List Word) (batch : Batch) → P (withdrawing owned batch)
  to_withdrawing [] batch = idle
  to_withdrawing (cell ∷ rest) batch = cleaning batch cleaner.GiveBack

  to_syncing : (batch : Batch) (files : List ℕ) → P (syncing batch files)
  to_syncing batch [] = cleaning batch (MoveHeaderTail 0)
  to_syncing batch (file ∷ rest) = cleaning batch (SyncStores (file ∷ rest))

  to_discharging : (batch : Batch) (files : List ℕ) → P (discharging batch files)
  to_discharging batch [] = cleaning batch GiveHeader
  to_discharging batch (file ∷ rest) = cleaning batch (GiveStores (file ∷ rest))

  to_finishing : (sizes : Sizes) (owned : List Word) (batch : Batch) → P (finishing sizes owned batch)
  to_finishing sizes owned batch = if_both P (batch.reached == batch.tail) (withdrawing owned (closed batch)) (syncing (closed batch) (rising_files sizes batch)) (λ _. to_withdrawing owned (closed batch)) (λ _. to_syncing (closed batch) (rising_files sizes batch))

  to_surveying : (sizes : Sizes) (owned : List Word) (batch : Batch) → P (surveying sizes owned batch)
  to_surveying sizes owned batch = if_both P (nat_lt batch.reached batch.head) (Cleaning batch (cleaner.LoadEntry 0)) (finishing sizes owned batch) (λ _. cleaning batch (cleaner.LoadEntry 0)) (λ _. to_finishing sizes owned batch)

  to_retreating : (sizes : Sizes) (owned : List Word) (batch : Batch) (i : ℕ) → P (retreating sizes owned batch i)
  to_retreating sizes owned batch i = if_both P (i == 0) (finishing sizes owned batch) (Cleaning batch (RefusedGiveCleanup (i - 1))) (λ _. to_finishing sizes owned batch) (λ _. cleaning batch (RefusedGiveCleanup (i - 1)))

  to_surveyed : (batch : Batch) (i : ℕ) → P (surveyed batch i)
  to_surveyed batch i = if_both P (nat_lt (i + 1) batch.count) (Cleaning batch (cleaner.LoadEntry (i + 1))) (Cleaning batch (cleaner.TakeCleanup 0)) (λ _. cleaning batch (cleaner.LoadEntry (i + 1))) (λ _. cleaning batch (cleaner.TakeCleanup 0))

  to_next : (batch : Batch) (i : ℕ) (inner : CleanerControl) (last : Control) → P last → P (each_next batch i inner last)
  to_next batch i inner last done = if_both P (i + 1 == length batch.pages) last (Cleaning batch inner) (λ _. done) (λ _. cleaning batch inner)

  to_claimed : (sizes : Sizes) (batch : Batch) → P (claimed sizes batch)
  to_claimed sizes batch = if_both P (holds_store batch (group_file sizes batch)) (Cleaning batch (cleaner.HoldEntry 0)) (Cleaning batch cleaner.TakeStore) (λ _. cleaning batch (cleaner.HoldEntry 0)) (λ _. cleaning batch cleaner.TakeStore)

  pub of_cleaner_to : (sizes : Sizes) (owned : List Word) (batch : Batch) (inner : CleanerControl) (found : ℕ) → P (after_cleaner_op sizes owned batch inner found)
  of_cleaner_to sizes owned batch TakeHeader found = if_both P (found == 0) (Cleaning batch cleaner.LoadStop) (withdrawing owned batch) (λ _. cleaning batch cleaner.LoadStop) (λ _. to_withdrawing owned batch)
  of_cleaner_to sizes owned batch cleaner.LoadStop found = if_both P (found == 0) (Cleaning batch LoadTail) (withdrawing owned batch) (λ _. cleaning batch LoadTail) (λ _. to_withdrawing owned batch)
  of_cleaner_to sizes owned batch LoadTail found = cleaning (record batch { tail = found; reached = found }) LoadHead
  of_cleaner_to sizes owned batch LoadHead found = to_surveying sizes owned (record batch { head = found })
  of_cleaner_to sizes owned batch (cleaner.LoadEntry i) found = if_both P (i == 0 && not (may_pass batch found)) (finishing sizes owned batch) (surveyed (batch_with_page batch i found) i) (λ _. to_finishing sizes owned batch) (λ _. to_surveyed (batch_with_page batch i found) i)
  of_cleaner_to sizes owned batch (cleaner.TakeCleanup i) found = if_both P (found == 0) (each_next batch i (cleaner.TakeCleanup (i + 1)) (claimed sizes batch)) (retreating sizes owned batch i)
      (λ _. to_next batch i (cleaner.TakeCleanup (i + 1)) (claimed sizes batch) (to_claimed sizes batch)) (λ _. to_retreating sizes owned batch i)
  of_cleaner_to sizes owned batch cleaner.TakeStore found = if_both P (found == 0) (Cleaning (record batch { files = group_file sizes batch ∷ batch.files }) (cleaner.HoldEntry 0)) (retreating sizes owned batch (length batch.pages))
      (λ _. cleaning (record batch { files = group_file sizes batch ∷ batch.files }) (cleaner.HoldEntry 0)) (λ _. to_retreating sizes owned batch (length batch.pages))
  of_cleaner_to sizes owned batch (cleaner.HoldEntry i) found = cleaning batch (cleaner.ReadPiece i)
  of_cleaner_to sizes owned batch (CleanEntry i) found = to_next batch i (CleanEntry (i + 1)) (Cleaning batch (SubtractDirty 0)) (cleaning batch (SubtractDirty 0))
  of_cleaner_to sizes owned batch (SubtractDirty i) found = to_next batch i (SubtractDirty (i + 1)) (Cleaning batch (cleaner.GiveCleanup 0)) (cleaning batch (cleaner.GiveCleanup 0))
  of_cleaner_to sizes owned batch (cleaner.GiveCleanup i) found = to_next batch i (cleaner.GiveCleanup (i + 1)) (surveying sizes owned (next_group batch)) (to_surveying sizes owned (next_group batch))
  of_cleaner_to sizes owned batch (RefusedReturnEntry i end) found = if_both P (i + 1 == end) (retreating sizes owned batch (length batch.pages)) (Cleaning batch (RefusedReturnEntry (i + 1) end)) (λ _. to_retreating sizes owned batch (length batch.pages)) (λ _. cleaning batch (RefusedReturnEntry (i + 1) end))
  of_cleaner_to sizes owned batch (FailedReturnEntry i end) found = if_both P (i + 1 == end) (withdrawing owned batch) (Cleaning batch (FailedReturnEntry (i + 1) end)) (λ _. to_withdrawing owned batch) (λ _. cleaning batch (FailedReturnEntry (i + 1) end))
  of_cleaner_to sizes owned batch (RefusedGiveCleanup i) found = to_retreating sizes owned batch i
  of_cleaner_to sizes owned batch (SyncStores files) found = cleaning batch (SyncStores files)
  of_cleaner_to sizes owned batch (MoveHeaderTail calls) found = cleaning batch (MoveHeaderTail calls)
  of_cleaner_to sizes owned batch (cleaner.ReadPiece i) found = cleaning batch (cleaner.ReadPiece i)
  of_cleaner_to sizes owned batch (WriteBack i) found = cleaning batch (WriteBack i)
  of_cleaner_to sizes owned batch (FreeEntry number) found = if_both P (number + 1 == batch.reached) (Cleaning batch AdvanceTail) (Cleaning batch (FreeEntry (number + 1))) (λ _. cleaning batch AdvanceTail) (λ _. cleaning batch (FreeEntry (number + 1)))
  of_cleaner_to sizes owned batch AdvanceTail found = to_discharging batch (rising_files sizes batch)
  of_cleaner_to sizes owned batch (GiveStores []) found = cleaning batch GiveHeader
  of_cleaner_to sizes owned batch (GiveStores (file ∷ rest)) found = to_discharging batch rest
  of_cleaner_to sizes owned batch GiveHeader found = cleaning batch GiveCleaner
  of_cleaner_to sizes owned batch GiveCleaner found = idle
  of_cleaner_to sizes owned batch (SetStop held) found = if_both P (held == 0) (withdrawing owned batch) (Cleaning batch (FailedReturnEntry 0 held)) (λ _. to_withdrawing owned batch) (λ _. cleaning batch (FailedReturnEntry 0 held))
  of_cleaner_to sizes owned batch cleaner.GiveBack found = to_withdrawing owned batch

  pub tended_to : (sizes : Sizes) (pass : Pass) (owned : List Word) (cleaner_op : CleanerOp) (found : ℕ) (control : Control) → CleanerEnabled sizes pass cleaner_op control → P (after_by_cleaner sizes owned cleaner_op found control)
  tended_to sizes pass owned cleaner_op found control may = tended (λ c s. P (after_by_cleaner sizes owned c found s)) sizes pass cleaner_op control may
      (λ most. if_both P (found == 0) (Cleaning (new_batch most) TakeHeader) Idle (λ _. cleaning (new_batch most) TakeHeader) (λ _. idle)) (λ batch inner e. of_cleaner_to sizes owned batch inner found)

  pub of_cleaner_worked : (batch : Batch) (how : CallEnding) (inner : CleanerControl) → P (after_cleaner_work batch how inner)
  of_cleaner_worked batch Made (WriteBack i) = to_next batch i (cleaner.HoldEntry (i + 1)) (Cleaning batch (CleanEntry 0)) (cleaning batch (CleanEntry 0))
  of_cleaner_worked batch Made (SyncStores (file ∷ rest)) = to_syncing batch rest
  of_cleaner_worked batch Made (MoveHeaderTail calls) = if_both P (calls + 1 == length (tail_steps batch.reached)) (Cleaning batch (FreeEntry batch.tail)) (Cleaning batch (MoveHeaderTail (calls + 1))) (λ _. cleaning batch (FreeEntry batch.tail)) (λ _. cleaning batch (MoveHeaderTail (calls + 1)))
  of_cleaner_worked batch Made (cleaner.ReadPiece i) = cleaning batch (WriteBack i)
  of_cleaner_worked batch Made inner = cleaning batch inner
  of_cleaner_worked batch (Failed came faults) (cleaner.ReadPiece i) = cleaning batch (SetStop (i + 1))
  of_cleaner_worked batch (Failed came faults) (WriteBack i) = cleaning batch (SetStop (i + 1))
  of_cleaner_worked batch (Failed came faults) inner = cleaning batch (SetStop 0)
  of_cleaner_worked batch Refused (WriteBack i) = cleaning batch (RefusedReturnEntry 0 (i + 1))
  of_cleaner_worked batch Refused inner = cleaning batch inner
