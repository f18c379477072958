-- A cleaner's progress: how the words, and the log as it was written, stand to the batch that it is at.
use Rattle.std.specs.Prelude.{◌≡◌, ℕ, ◌+◌, ◌<◌, ◌≤◌, nat_lt, nat_le, ◌&&◌, true, if◌then◌else◌, length}
use Rattle.nv_core.specs.state.Words.{Sizes, STOP, HEAD, TAIL, kind_of, page_of, was_readied, ready, held, cleaned}
use Rattle.nv_core.specs.state.Cleaner.{Batch, CleanerControl, TakeHeader, LoadTail, LoadHead, WriteBack, CleanEntry, SubtractDirty, RefusedReturnEntry, FailedReturnEntry, RefusedGiveCleanup, SyncStores, MoveHeaderTail, FreeEntry, AdvanceTail, GiveStores, GiveHeader, GiveCleaner, SetStop}
use Rattle.nv_core.specs.state.Cleaner as cleaner
use Rattle.nv_core.specs.invariant.CleanerNumbers.{IsCleaned}
use Rattle.nv_core.specs.steps.CleanerSteps.{group_page, group_file, holds_store, new_batch}
use Rattle.nv_core.specs.state.Passes.{Cleaning}
use Rattle.nv_core.specs.state.Core.{Core}
use Rattle.nv_core.specs.invariant.LogWindow.{InWindow, entry_word_at}
use Rattle.nv_core.specs.content.PagesAfter.{file_of_page}
use Rattle.nv_core.specs.log.Groups.{Log}
use Rattle.nv_core.specs.log.Pieces.{page_of_number}

-- it has loaded TAIL, and not moved it
abbrev pub HasLoadedTail : CleanerControl → Type 0
HasLoadedTail TakeHeader = ⊥
HasLoadedTail cleaner.LoadStop = ⊥
HasLoadedTail LoadTail = ⊥
HasLoadedTail (GiveStores files) = ⊥
HasLoadedTail GiveHeader = ⊥
HasLoadedTail GiveCleaner = ⊥
HasLoadedTail cleaner.GiveBack = ⊥
HasLoadedTail inner = Unit {0}

-- it has not loaded TAIL yet
abbrev pub IsBeforeTail : CleanerControl → Type 0
IsBeforeTail TakeHeader = Unit {0}
IsBeforeTail cleaner.LoadStop = Unit {0}
IsBeforeTail LoadTail = Unit {0}
IsBeforeTail inner = ⊥

-- it has found STOP at 0, and not freed all that it cleaned
abbrev pub HasFoundNoStop : CleanerControl → Type 0
HasFoundNoStop LoadTail = Unit {0}
HasFoundNoStop inner = HasLoadedTail inner

-- it has set STOP, and holds entries still
abbrev pub HasSetStop : CleanerControl → Type 0
HasSetStop (FailedReturnEntry i end) = Unit {0}
HasSetStop inner = ⊥

-- it has no group at hand
abbrev pub HasNoGroup : CleanerControl → Type 0
HasNoGroup LoadHead = Unit {0}
HasNoGroup (SyncStores files) = Unit {0}
HasNoGroup (MoveHeaderTail calls) = Unit {0}
HasNoGroup (FreeEntry number) = Unit {0}
HasNoGroup AdvanceTail = Unit {0}
HasNoGroup inner = ⊥

-- it holds STORE of the file of the group at hand
abbrev pub HasStore : CleanerControl → Type 0
HasStore (cleaner.HoldEntry i) = Unit {0}
HasStore (cleaner.ReadPiece i) = Unit {0}
HasStore (WriteBack i) = Unit {0}
HasStore (CleanEntry i) = Unit {0}
HasStore (SubtractDirty i) = Unit {0}
HasStore (cleaner.GiveCleanup i) = Unit {0}
HasStore inner = ⊥

-- it has a group at hand, of which all ENTRY words are loaded
abbrev pub HasWholeGroup : CleanerControl → Type 0
HasWholeGroup (cleaner.TakeCleanup i) = Unit {0}
HasWholeGroup cleaner.TakeStore = Unit {0}
HasWholeGroup (cleaner.HoldEntry i) = Unit {0}
HasWholeGroup (cleaner.ReadPiece i) = Unit {0}
HasWholeGroup (WriteBack i) = Unit {0}
HasWholeGroup (CleanEntry i) = Unit {0}
HasWholeGroup (SubtractDirty i) = Unit {0}
HasWholeGroup (cleaner.GiveCleanup i) = Unit {0}
HasWholeGroup (RefusedReturnEntry i end) = Unit {0}
HasWholeGroup (RefusedGiveCleanup i) = Unit {0}
HasWholeGroup inner = ⊥

-- the kind of an entry of the group at hand, by its place: that of one whose CLEANUP it holds
abbrev pub KindAt : CleanerControl → (i kind : ℕ) → Type 0
KindAt (cleaner.TakeCleanup n) i kind = i < n → kind ≡ ready
KindAt cleaner.TakeStore i kind = kind ≡ ready
KindAt (cleaner.HoldEntry n) i kind = kind ≡ (if nat_lt i n then held else ready)
KindAt (cleaner.ReadPiece n) i kind = kind ≡ (if nat_le i n then held else ready)
KindAt (WriteBack n) i kind = kind ≡ (if nat_le i n then held else ready)
KindAt (CleanEntry n) i kind = kind ≡ (if nat_lt i n then cleaned else held)
KindAt (SubtractDirty n) i kind = kind ≡ cleaned
KindAt (cleaner.GiveCleanup n) i kind = kind ≡ cleaned
KindAt (RefusedReturnEntry n end) i kind = kind ≡ (if nat_le n i && nat_lt i end then held else ready)
KindAt (FailedReturnEntry n end) i kind = kind ≡ (if nat_le n i && nat_lt i end then held else ready)
KindAt (SetStop n) i kind = kind ≡ (if nat_lt i n then held else ready)
KindAt inner i kind = Unit {0}

-- the entries of the group at hand that were loaded: each was made ready, and is of its page, and its kind is known
pub record IsLooked (sizes : Sizes) (core : Core) (batch : Batch) (inner : CleanerControl) (i : ℕ) : Type 0 where
  pub within : InWindow core (batch.reached + i)
  pub readied : was_readied (entry_word_at sizes core (batch.reached + i)) ≡ true
  pub page : page_of (entry_word_at sizes core (batch.reached + i)) ≡ group_page batch i
  pub kind : KindAt inner i (kind_of (entry_word_at sizes core (batch.reached + i)))

-- What a cleaner has cleaned, with the group at hand, is at most its batch; or it has cleaned nothing, so that the group at hand is the first; or
-- it has cleaned the first group alone, and has none at hand.
pub data IsBatchBounded (log : Log) (batch : Batch) : Type 0 where
  Within : batch.reached + batch.count ≤ batch.tail + batch.most → IsBatchBounded log batch
  First : batch.reached ≡ batch.tail → IsBatchBounded log batch
  Alone : batch.count ≡ 0 → batch.reached ≡ batch.tail + (log.group batch.tail).entries → IsBatchBounded log batch

-- A batch of a cleaner that has footed: TAIL is as it was loaded. The next number behind the cleaned groups is HEAD or a leader's; the group at
-- hand is that leader's, all of it where it is known whole; the files of all that was cleaned are among those whose STORE it holds; and it keeps
-- to its batch.
pub record IsBatchUnderWay (sizes : Sizes) (log : Log) (core : Core) (batch : Batch) (inner : CleanerControl) : Type 0 where
  pub tail : batch.tail ≡ core.words TAIL
  pub low : batch.tail ≤ batch.reached
  pub high : batch.reached ≤ core.words HEAD
  pub leads : InWindow core batch.reached → (log.group batch.reached).first ≡ batch.reached
  pub looked : (i : ℕ) → i < length batch.pages → IsLooked sizes core batch inner i
  pub count : 0 < length batch.pages → batch.count ≡ (log.group batch.reached).entries
  pub whole : HasWholeGroup inner → length batch.pages ≡ batch.count
  pub none : HasNoGroup inner → length batch.pages ≡ 0
  pub stored : HasStore inner → holds_store batch (group_file sizes batch) ≡ true
  pub files : (file : ℕ) → holds_store batch file ≡ true → file < sizes.files
  pub stores : (number : ℕ) → batch.tail ≤ number → number < batch.reached → holds_store batch (file_of_page sizes (page_of_number sizes (log.group number) number)) ≡ true
  pub bound : IsBatchBounded log batch

-- So it is of every cleaner. One that has not loaded TAIL has a new batch; and once it has found STOP at 0, what is cleaned is its
-- own. One that has set STOP finds it set.
pub record Progress (sizes : Sizes) (log : Log) (core : Core) : Type 0 where
  pub each : (by : ℕ) (batch : Batch) (inner : CleanerControl) → (core.passes by).control ≡ Cleaning batch inner → HasLoadedTail inner → IsBatchUnderWay sizes log core batch inner
  pub head : (by : ℕ) (batch : Batch) (inner : CleanerControl) → (core.passes by).control ≡ Cleaning batch inner → batch.head ≤ core.words HEAD
  pub fresh : (by : ℕ) (batch : Batch) (inner : CleanerControl) → (core.passes by).control ≡ Cleaning batch inner → IsBeforeTail inner → batch ≡ new_batch batch.most
  pub own : (by : ℕ) (batch : Batch) (inner : CleanerControl) → (core.passes by).control ≡ Cleaning batch inner → HasFoundNoStop inner
      → (number : ℕ) → InWindow core number → kind_of (entry_word_at sizes core number) ≡ cleaned → IsCleaned (Cleaning batch inner) number
  pub set_stop : (by : ℕ) (batch : Batch) (inner : CleanerControl) → (core.passes by).control ≡ Cleaning batch inner → HasSetStop inner → core.words STOP ≡ 1
