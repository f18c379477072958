-- Generated calls: which trace a load is.
use Rattle.std.specs.Prelude.{ℕ, zero, suc, ◌+◌, ◌*◌, ◌/◌, ◌%◌, ◌-◌, ◌^◌, ◌≤◌, ◌==◌, if◌then◌else◌, List, [], ◌∷◌, ◌++◌, length, map, replicate, codes}
use Rattle.std.specs.List.{flat_map, range_with_len}
use Rattle.std.specs.List.Sorted.{IsStrictlyIncreasing}
use Rattle.nv_plain.specs.declared.mode.Mode.TheVariants.{Rw}
use Rattle.nv_pmem.specs.Draws.{Draws, after_draw, draws_of, next_word}
use Rattle.nv_pmem.specs.declared.picker.Pick.TheVariants.{Seed}
use Rattle.nv_trace.specs.declared.trace.Form.TheVariants.{Run}
use Rattle.nv_trace.specs.declared.trace_call.TraceCall.{TraceCall}
use Rattle.nv_trace.specs.declared.trace_call.TraceCall.TheVariants.{Pread, Pwrite}
use Rattle.nv_trace.specs.declared.trace_call.TracedCall.{TracedCall}
use Rattle.nv_trace.specs.Shape.{IsWellFormed}
use Rattle.nv_trace.specs.Traced.{Traced, lines_in}
use Rattle.nv_load.specs.declared.load.Load.{Load}

-- A load is within its limits.
pub record IsLoad (load : Load) : Type 0 where
  pub seed : load.seed ≤ 2 ^ 32 - 1
  pub calls : load.calls ≤ 100000
  pub some_threads : 1 ≤ load.threads
  pub few_threads : load.threads ≤ 8

-- ---- calls

-- a block of the file, 96 bytes long, is filled with a byte
abbrev pub fill : (block byte : ℕ) → TraceCall
fill block byte = Pwrite 0 (96 * block) (replicate 96 byte)

-- the first round: each of the 64 blocks is filled with 0
abbrev pub first_fills : List TraceCall
first_fills = map (λ block. fill block 0) (range_with_len 0 64)

-- The call of a thread that three words tell: a read of 1 to 96 bytes, or a fill of one of the thread's own blocks, which are every so
-- many as there are threads.
abbrev pub call_of_words : (threads thread a b c : ℕ) → TraceCall
call_of_words threads thread a b c =
    if a % 4 == 0 then Pread 0 (b % 6048) (1 + c % 96)
    else fill (thread + threads * (b % (64 / threads))) (c % 256)

-- the call that is drawn next
abbrev pub drawn_call : (threads thread : ℕ) → Draws → TraceCall
drawn_call threads thread draws =
    call_of_words threads thread (next_word draws) (next_word (after_draw draws)) (next_word (after_draw (after_draw draws)))

-- so many calls, drawn one after another
abbrev pub drawn_calls : (threads thread count : ℕ) → Draws → List TraceCall
drawn_calls threads thread zero draws = []
drawn_calls threads thread (suc count) draws =
    drawn_call threads thread draws ∷ drawn_calls threads thread count (after_draw (after_draw (after_draw draws)))

-- ---- the trace

-- some calls of a thread in a round, one a line, the first in this one
abbrev pub in_lines : (line round thread : ℕ) → List TraceCall → List TracedCall
in_lines line round thread [] = []
in_lines line round thread (call ∷ later) =
    record { line = line; round = round; thread = thread; call = call } ∷ in_lines (line + 1) round thread later

-- The calls of a thread in the second round, by draws of its own. They stand behind those of the threads before it.
abbrev pub thread_calls : Load → (thread : ℕ) → List TracedCall
thread_calls load thread =
    in_lines (68 + thread * load.calls) 1 thread (drawn_calls load.threads thread load.calls (draws_of (Seed (load.seed + thread))))

-- the calls of both rounds
abbrev pub generated_calls : Load → List TracedCall
generated_calls load = in_lines 3 0 0 first_fills ++ flat_map (thread_calls load) (range_with_len 0 load.threads)

-- one file, open to read and write
abbrev pub declared : Traced
declared = record {
  form = Run;
  names = codes "g" ∷ [];
  descriptors = record { file = 0; mode = Rw } ∷ [];
  calls = [];
  rounds = 0;
  lives = [];
  tokens = [];
}

-- The trace of a load: thread 0 fills the file, and behind the round line each thread makes its calls.
abbrev pub generated : Load → Traced
generated load = record declared { calls = generated_calls load; rounds = 1 }

-- It is well formed, its calls stand in the order of their lines, and they are 800,064 at most.
abbrev pub GeneratedTracesAreSound : Type 0
GeneratedTracesAreSound = (load : Load) → IsLoad load → IsWellFormed (generated load) × IsStrictlyIncreasing (lines_in (generated load)) × (length (generated_calls load) ≤ 800064)

-- ---- its rounds

-- the calls of the first, and of the second
abbrev pub first_round : List TracedCall
first_round = in_lines 3 0 0 first_fills

abbrev pub second_round : Load → List TracedCall
second_round load = flat_map (thread_calls load) (range_with_len 0 load.threads)
