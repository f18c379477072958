-- Retiring: what a cleaner has written to the stores, and how far the header's tail is moved past what it has cleaned.
use Rattle.std.specs.Prelude.{◌≡◌, ◌≢◌, ◌⊎◌, ℕ, suc, ◌<◌, ◌≤◌, true, length, Some}
use Rattle.nv_plain.specs.Calls.{files_after}
use Rattle.nv_store.specs.Store.{Store, IsQuietStore}
use Rattle.nv_core.specs.state.Words.{Sizes, STOP, HEAD, STORE, kind_of, cleaned}
use Rattle.nv_core.specs.state.Cleaner.{TakeHeader, WriteBack, CleanEntry, SyncStores, MoveHeaderTail, FreeEntry, AdvanceTail, GiveHeader, GiveCleaner, SetStop, FailedReturnEntry, GiveStores}
use Rattle.nv_core.specs.state.Cleaner as cleaner
use Rattle.nv_core.specs.steps.CleanerSteps.{holds_store}
use Rattle.nv_core.specs.invariant.CleanerOwnership.{count_in}
use Rattle.nv_core.specs.invariant.CleanerNumbers.{IsFreed}
use Rattle.nv_core.specs.state.Passes.{Control, Cleaning, IsOfGroupAtHand}
use Rattle.nv_core.specs.state.Core.{Core}
use Rattle.nv_core.specs.content.StorePages.{store_of_value}
use Rattle.nv_core.specs.invariant.LogWindow.{InWindow, entry_word_at}
use Rattle.nv_core.specs.log.Groups.{Log}
use Rattle.nv_core.specs.log.LivePieces.{piece_call, store_files}
use Rattle.nv_core.specs.invariant.Rooms.{IsMoving}
use Rattle.nv_core.specs.log.Tails.{Tails}

-- a number of the group at hand whose piece is written to its store, and whose entry is held
abbrev pub IsWrittenBack : Control → (number : ℕ) → Type 0
IsWrittenBack (Cleaning batch (cleaner.HoldEntry i)) number = IsOfGroupAtHand batch 0 i number
IsWrittenBack (Cleaning batch (cleaner.ReadPiece i)) number = IsOfGroupAtHand batch 0 i number
IsWrittenBack (Cleaning batch (WriteBack i)) number = IsOfGroupAtHand batch 0 i number
IsWrittenBack (Cleaning batch (CleanEntry i)) number = IsOfGroupAtHand batch i (length batch.pages) number
IsWrittenBack control number = ⊥

-- a file whose store a cleaner has synced
abbrev pub IsSynced : Control → (file : ℕ) → Type 0
IsSynced (Cleaning batch (SyncStores files)) file = (holds_store batch file ≡ true) × (count_in files file ≡ 0)
IsSynced (Cleaning batch (MoveHeaderTail calls)) file = holds_store batch file ≡ true
IsSynced control file = ⊥

-- How the header's tail stands to a cleaner that found STOP at 0: it isn't moved, is moved to the end of what it has cleaned, or has been.
abbrev pub TailsAt : Tails → Control → Type 0
TailsAt tails (Cleaning batch TakeHeader) = Unit {0}
TailsAt tails (Cleaning batch cleaner.LoadStop) = Unit {0}
TailsAt tails (Cleaning batch (MoveHeaderTail (suc calls))) = (tails.next ≡ batch.reached) × (tails.calls ≡ suc calls)
TailsAt tails (Cleaning batch (FreeEntry number)) = (tails.least ≡ batch.reached) × (tails.calls ≡ 0)
TailsAt tails (Cleaning batch AdvanceTail) = (tails.least ≡ batch.reached) × (tails.calls ≡ 0)
TailsAt tails (Cleaning batch (GiveStores files)) = tails.calls ≡ 0
TailsAt tails (Cleaning batch GiveHeader) = tails.calls ≡ 0
TailsAt tails (Cleaning batch GiveCleaner) = Unit {0}
TailsAt tails (Cleaning batch (SetStop held)) = Unit {0}
TailsAt tails (Cleaning batch (FailedReturnEntry i end)) = Unit {0}
TailsAt tails (Cleaning batch cleaner.GiveBack) = Unit {0}
TailsAt tails (Cleaning batch inner) = tails.calls ≡ 0
TailsAt tails control = Unit {0}

-- a number is cleaned, or freed by a cleaner that is still to move TAIL
abbrev pub IsDone : Sizes → Core → (number : ℕ) → Type 0
IsDone sizes core number = (kind_of (entry_word_at sizes core number) ≡ cleaned) ⊎ ((by : ℕ) × IsFreed (core.passes by).control number)

-- Writing a piece again that is written to its store changes nothing. A synced store is durable. The tails stand in order, and all numbers of
-- the window below the greater one are cleaned or freed. A tail in the window is a leader's number. A move that has begun is a cleaner's that
-- is at it, or STOP is set.
pub record Retired (sizes : Sizes) (tails : Tails) (log : Log) (core : Core) : Type 0 where
  pub written : (by number : ℕ) → IsWrittenBack (core.passes by).control number
      → files_after (piece_call sizes (log.group number) number) (store_files sizes core.values) ≡ store_files sizes core.values
  pub synced : (by file : ℕ) (store : Store) → IsSynced (core.passes by).control file → store_of_value (core.values (STORE file)) ≡ Some store → IsQuietStore store
  pub at : (by : ℕ) → TailsAt tails (core.passes by).control
  pub begun : tails.calls ≢ 0 → (core.words STOP ≡ 1) ⊎ ((by : ℕ) × IsMoving (core.passes by).control)
  pub same : tails.calls ≡ 0 → tails.next ≡ tails.least
  pub order : tails.least ≤ tails.next
  pub high : tails.next ≤ core.words HEAD
  pub leads : (tail : ℕ) → (tail ≡ tails.least) ⊎ (tail ≡ tails.next) → InWindow core tail → (log.group tail).first ≡ tail
  pub done : (number : ℕ) → InWindow core number → number < tails.next → IsDone sizes core number
