-- Stocks: which calls of a load a thread has still to make.
use Rattle.std.specs.Prelude.{◌≡◌, ℕ, ◌+◌, ◌-◌, ◌^◌, ◌<◌, ◌≤◌, List, map, Option, Some, None}
use Rattle.std.specs.List.{range_with_len}
use Rattle.nv_pmem.specs.Draws.{Draws}
use Rattle.nv_trace.specs.declared.trace_call.TracedCall.{TracedCall}
use Rattle.nv_load.specs.Generated.{drawn_calls, fill, in_lines}

-- So many calls are left to a thread, in lines from this one on. Fills are those of the last blocks of the file.
pub record IsStock (threads thread : ℕ) (words : Option Draws) (left line : ℕ) : Type 0 where
  pub some : 1 ≤ threads
  pub few : threads ≤ 8
  pub thread_is : thread < threads
  pub lines : line + left < 2 ^ 64
  pub fills : words ≡ None → left ≤ 64

-- those that words draw, in the second round; or where there are none fills, in the first
abbrev pub stock_list : (threads thread : ℕ) → Option Draws → (left line : ℕ) → List TracedCall
stock_list threads thread None left line = in_lines line 0 thread (map (λ block. fill block 0) (range_with_len (64 - left) left))
stock_list threads thread (Some words) left line = in_lines line 1 thread (drawn_calls threads thread left words)
