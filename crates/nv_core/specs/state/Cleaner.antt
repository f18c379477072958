-- The cleaner: its batch, its control states and its operations.
use Rattle.std.specs.Prelude.{ℕ, List}
use Rattle.nv_core.specs.state.Words.{Word}

-- A batch: how many entries it may pass; TAIL and HEAD as it loaded them; the end of the groups that it has cleaned; how many entries the
-- group at hand has, and the pages of those whose ENTRY it has loaded; and the files whose STORE it holds.
pub record Batch : Type 0 where
  pub most : ℕ
  pub tail : ℕ
  pub head : ℕ
  pub reached : ℕ
  pub count : ℕ
  pub pages : List ℕ
  pub files : List ℕ

-- Where a cleaner stands: what its next step is. The entries of the group at hand are named by their places in it.
pub data CleanerControl : Type 0 where
  -- HEADER is taken next, CLEANER being held; STOP, TAIL and HEAD are loaded
  TakeHeader : CleanerControl
  LoadStop : CleanerControl
  LoadTail : CleanerControl
  LoadHead : CleanerControl
  -- the group at hand: this one's ENTRY is loaded next; CLEANUP of its page is taken; and then STORE of the file, if it isn't held
  LoadEntry : (i : ℕ) → CleanerControl
  TakeCleanup : (i : ℕ) → CleanerControl
  TakeStore : CleanerControl
  -- this one is held next; its piece is read; and written to the store
  HoldEntry : (i : ℕ) → CleanerControl
  ReadPiece : (i : ℕ) → CleanerControl
  WriteBack : (i : ℕ) → CleanerControl
  -- this one is cleaned next; DIRTY of its page falls; CLEANUP of its page is given back
  CleanEntry : (i : ℕ) → CleanerControl
  SubtractDirty : (i : ℕ) → CleanerControl
  GiveCleanup : (i : ℕ) → CleanerControl
  -- a group that can't be cleaned: this one of so many is made ready again next, for want of memory or after a fault; and this one's
  -- CLEANUP is given back, the last first
  RefusedReturnEntry : (i end : ℕ) → CleanerControl
  FailedReturnEntry : (i end : ℕ) → CleanerControl
  RefusedGiveCleanup : (i : ℕ) → CleanerControl
  -- these stores are synced, the next one first; the header's tail is moved, of which so many device calls came; this number's entry is
  -- freed next; TAIL moves
  SyncStores : (files : List ℕ) → CleanerControl
  MoveHeaderTail : (calls : ℕ) → CleanerControl
  FreeEntry : (number : ℕ) → CleanerControl
  AdvanceTail : CleanerControl
  -- STORE of these is given back, the next one first; HEADER; CLEANER
  GiveStores : (files : List ℕ) → CleanerControl
  GiveHeader : CleanerControl
  GiveCleaner : CleanerControl
  -- after a device fault, with so many entries of the group held, STOP is set next
  SetStop : (held : ℕ) → CleanerControl
  -- all that is held is given back, the last taken first
  GiveBack : CleanerControl

-- A cleaner's step, by its kind: the take of CLEANER with which it begins, for a batch of so many; load, take, give, hold, return as ready,
-- return as cleaned, subtract, free, tail, stop. An entry is named by its number.
pub data CleanerOp : Type 0 where
  TakeCleaner : (most : ℕ) → CleanerOp
  Load : Word → CleanerOp
  Take : Word → CleanerOp
  Give : Word → CleanerOp
  Hold : (number : ℕ) → CleanerOp
  Return : (number : ℕ) → CleanerOp
  Clean : (number : ℕ) → CleanerOp
  Subtract : (page : ℕ) → CleanerOp
  Free : (number : ℕ) → CleanerOp
  MoveTail : (tail : ℕ) → CleanerOp
  Stop : CleanerOp
