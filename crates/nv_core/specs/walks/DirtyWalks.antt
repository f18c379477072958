-- Dirty walks: on the walks' mount, a write to the second page, and a read of that page, whose entry its store lacks.
use Rattle.std.specs.Prelude.{◌≡◌, ℕ, List, [], ◌∷◌, ◌++◌, map, replicate}
use Rattle.std.specs.List.{range_with_len}
use Rattle.nv_plain.specs.declared.call.FileCall.TheVariants.{Read, Write}
use Rattle.nv_plain.specs.declared.call.Reply.TheVariants.{Bytes, Count}
use Rattle.nv_core.specs.state.Words.{STOP, ORDER, HEAD, TAIL, LENGTH, STORE, ENTRY, PAGE, CLEANUP, DIRTY}
use Rattle.nv_core.specs.state.Values.{PageRead, PieceRead, Made, bytes_in}
use Rattle.nv_core.specs.steps.Ops.{Load, Take, Give, Place, Draw, Seize, Pledge, Ready, Hold, Return}
use Rattle.nv_core.specs.state.Core.{Core}
use Rattle.nv_core.specs.steps.Events.{BeginsCall, TakesStep, CallsDevice, Event, after_run, IsRun}
use Rattle.nv_core.specs.walks.Walks.{walk_sizes, walk_bytes, rows_after, acts, commits, write_core}

-- After the walks' first write pass 1 writes 5 bytes at the start of the second page, whose buffer isn't valid.
abbrev pub walk_second : List Event
walk_second =
    acts 1 (BeginsCall (Write 0 64 walk_bytes) (Take (PAGE 1)) 0)
    ∷ acts 1 (TakesStep (Load (LENGTH 0)) 128)
    ∷ acts 1 (TakesStep (Load STOP) 0)
    ∷ acts 1 (TakesStep (Load ORDER) 2)
    ∷ acts 1 (TakesStep (Load HEAD) 1)
    ∷ acts 1 (TakesStep (Load TAIL) 0)
    ∷ acts 1 (TakesStep Draw 1)
    ∷ acts 1 (TakesStep (Seize 1) 0)
    ∷ map (commits 1 1 64 walk_bytes Made) (range_with_len 0 19)
    ++ acts 1 (TakesStep (Pledge 1) 0)
    ∷ acts 1 (TakesStep (Ready 1) 1)
    ∷ acts 1 (TakesStep (Place (Count 5)) 2)
    ∷ acts 1 (TakesStep (Give (PAGE 1)) 1)
    ∷ []

-- the core after that write
abbrev pub second_core : Core
second_core = after_run walk_sizes write_core walk_second

-- Pass 0 reads 16 bytes of that page: from the store, and then the piece of entry 1; entry 0 is of the first page.
abbrev pub walk_dirty : List Event
walk_dirty =
    acts 0 (BeginsCall (Read 0 64 16) (Take (PAGE 1)) 0)
    ∷ acts 0 (TakesStep (Load (LENGTH 0)) 128)
    ∷ acts 0 (TakesStep (Load STOP) 0)
    ∷ acts 0 (TakesStep (Load ORDER) 3)
    ∷ acts 0 (TakesStep (Load (DIRTY 1)) 1)
    ∷ acts 0 (TakesStep (Take (CLEANUP 1)) 0)
    ∷ acts 0 (TakesStep (Take (STORE 0)) 0)
    ∷ acts 0 (CallsDevice record { cell = STORE 0; job = PageRead 64 (replicate 64 97); ending = Made })
    ∷ acts 0 (TakesStep (Give (STORE 0)) 1)
    ∷ acts 0 (TakesStep (Load HEAD) 2)
    ∷ acts 0 (TakesStep (Load TAIL) 0)
    ∷ acts 0 (TakesStep (Load (ENTRY 0)) 10)
    ∷ acts 0 (TakesStep (Load (ENTRY 1)) 1034)
    ∷ acts 0 (TakesStep (Hold 1) 1034)
    ∷ acts 0 (CallsDevice record { cell = ENTRY 1; job = PieceRead 64 walk_bytes; ending = Made })
    ∷ acts 0 (TakesStep (Return 1) 1035)
    ∷ acts 0 (TakesStep (Give (CLEANUP 1)) 1)
    ∷ acts 0 (TakesStep (Place (Bytes (walk_bytes ++ replicate 11 97))) 3)
    ∷ acts 0 (TakesStep (Give (PAGE 1)) 1)
    ∷ []

-- the core after that read
abbrev pub dirty_core : Core
dirty_core = after_run walk_sizes second_core walk_dirty

-- the words that this walk shows: ORDER, HEAD, STORE, the second page's PAGE, CLEANUP and DIRTY, the first two entries
abbrev pub dirty_shown : Core → List ℕ
dirty_shown core = map core.words (ORDER ∷ HEAD ∷ STORE 0 ∷ PAGE 1 ∷ CLEANUP 1 ∷ DIRTY 1 ∷ ENTRY 0 ∷ ENTRY 1 ∷ [])

-- Both are runs; these are the words after each event of the read; and the page's buffer then has the piece over the store's bytes.
pub record DirtyReadIsWalked : Type 0 where
  pub writes : IsRun walk_sizes write_core walk_second
  pub is_run : IsRun walk_sizes second_core walk_dirty
  pub words : rows_after dirty_shown second_core walk_dirty
      ≡ replicate 5 (3 ∷ 2 ∷ 0 ∷ 1 ∷ 0 ∷ 1 ∷ 10 ∷ 1034 ∷ [])
      ++ (3 ∷ 2 ∷ 0 ∷ 1 ∷ 1 ∷ 1 ∷ 10 ∷ 1034 ∷ [])
      ∷ replicate 2 (3 ∷ 2 ∷ 1 ∷ 1 ∷ 1 ∷ 1 ∷ 10 ∷ 1034 ∷ [])
      ++ replicate 5 (3 ∷ 2 ∷ 0 ∷ 1 ∷ 1 ∷ 1 ∷ 10 ∷ 1034 ∷ [])
      ++ replicate 2 (3 ∷ 2 ∷ 0 ∷ 1 ∷ 1 ∷ 1 ∷ 10 ∷ 1035 ∷ [])
      ++ (3 ∷ 2 ∷ 0 ∷ 1 ∷ 1 ∷ 1 ∷ 10 ∷ 1034 ∷ [])
      ∷ (3 ∷ 2 ∷ 0 ∷ 1 ∷ 0 ∷ 1 ∷ 10 ∷ 1034 ∷ [])
      ∷ (4 ∷ 2 ∷ 0 ∷ 1 ∷ 0 ∷ 1 ∷ 10 ∷ 1034 ∷ [])
      ∷ (4 ∷ 2 ∷ 0 ∷ 0 ∷ 0 ∷ 1 ∷ 10 ∷ 1034 ∷ [])
      ∷ []
  pub bytes : bytes_in (dirty_core.values (PAGE 1)) ≡ walk_bytes ++ replicate 59 97
