-- Summaries: what is counted of a run of generated calls, and what the load alone says of it.
use Rattle.std.specs.Prelude.{◌≡◌, ℕ, ◌+◌, ◌*◌, nat_eq, if◌then◌else◌, true, List, [], ◌∷◌, length, sum_by, fold, codes}
use Rattle.std.specs.List.{concat, sum}
use lib.Pointwise.{pointwise}
use Rattle.nv_plain.specs.Faults.{saturated}
use Rattle.nv_plain.specs.Files.{overwritten}
use Rattle.nv_plain.specs.declared.call.Reply.{Reply}
use Rattle.nv_plain.specs.declared.call.Reply.TheVariants.{Bytes, Parts, Count, Done}
use Rattle.nv_trace.specs.declared.trace_call.TraceCall.{TraceCall}
use Rattle.nv_trace.specs.declared.trace_call.TraceCall.TheVariants.{Pread, Pwrite, Preadv, Pwritev, Fsync}
use Rattle.nv_trace.specs.declared.trace_call.TracedCall.{TracedCall}
use Rattle.nv_runner.specs.Faithful.{Basis, IsFaithful}
use Rattle.nv_runner.specs.Histories.{PlacedCall}
use Rattle.nv_runner.specs.Reports.{NamedFile, Report}
use Rattle.nv_load.specs.Generated.{IsLoad, generated, generated_calls}
use Rattle.nv_load.specs.declared.load.Load.{Load}
use Rattle.nv_load.specs.declared.summary.Summary.{Summary}

-- ---- of a run

-- how many bytes a call writes
abbrev pub bytes_written : TraceCall → ℕ
bytes_written (Pread fd at len) = 0
bytes_written (Pwrite fd at bytes) = length bytes
bytes_written (Preadv fd at lens) = 0
bytes_written (Pwritev fd at parts) = length (concat parts)
bytes_written (Fsync fd) = 0

-- how many bytes a reply gives
abbrev pub bytes_read : Reply → ℕ
bytes_read (Bytes bytes) = length bytes
bytes_read (Parts parts) = length (concat parts)
bytes_read (Count count) = 0
bytes_read Done = 0

-- the sum of some bytes, each times its place, the first of them at this one
abbrev pub weighted_sum : (place : ℕ) → List ℕ → ℕ
weighted_sum place [] = 0
weighted_sum place (byte ∷ bytes) = place * byte + weighted_sum (place + 1) bytes

-- The summary of a history and of the bytes of a file, whose places count from 1. A sum stands still at 2^64 - 1.
abbrev pub summary_of : List PlacedCall → (file : List ℕ) → Summary
summary_of history file = record {
  placed = length history;
  written = saturated (sum_by (λ p. bytes_written p.call.call) history);
  read = saturated (sum_by (λ p. bytes_read p.reply) history);
  sum = saturated (weighted_sum 1 file);
}

-- the bytes of the file of this name
abbrev pub bytes_of : (name : List ℕ) → List NamedFile → List ℕ
bytes_of name [] = []
bytes_of name (file ∷ files) = if pointwise nat_eq file.name name then file.bytes else bytes_of name files

-- the summary of a report of generated calls
abbrev pub summary_shown : Report → Summary
summary_shown report = summary_of report.history (bytes_of (codes "g") report.files)

-- ---- of the load alone

-- how many bytes a call asks for
abbrev pub bytes_asked : TraceCall → ℕ
bytes_asked (Pread fd at len) = len
bytes_asked (Pwrite fd at bytes) = 0
bytes_asked (Preadv fd at lens) = sum lens
bytes_asked (Pwritev fd at parts) = 0
bytes_asked (Fsync fd) = 0

-- the bytes of the file after a call
abbrev pub after_call : TraceCall → List ℕ → List ℕ
after_call (Pread fd at len) bytes = bytes
after_call (Pwrite fd at written) bytes = overwritten bytes at written
after_call (Preadv fd at lens) bytes = bytes
after_call (Pwritev fd at parts) bytes = overwritten bytes at (concat parts)
after_call (Fsync fd) bytes = bytes

-- and after some calls, the first of them first
abbrev pub after_calls : List TracedCall → List ℕ → List ℕ
after_calls calls bytes = fold (λ bytes traced. after_call traced.call bytes) bytes calls

-- What a load alone says of its run: all of its calls are placed, each read gets the bytes that it asks for, and an empty file is then as
-- after the calls in the order of their lines.
abbrev pub load_summary : Load → Summary
load_summary load = record {
  placed = 64 + load.threads * load.calls;
  written = sum_by (λ traced. bytes_written traced.call) (generated_calls load);
  read = sum_by (λ traced. bytes_asked traced.call) (generated_calls load);
  sum = weighted_sum 1 (after_calls (generated_calls load) []);
}

-- what a run of generated calls begins with where the region was blank and there was no file: a new log, and the file, empty
abbrev pub fresh_basis : Basis
fresh_basis = record {
  sizes = record { page = 64; entries = 16; pages = 96 };
  names = codes "g" ∷ [];
  files = record { contents = [] ∷ [] };
  next = 0;
}

-- From there the summary of a run is that of the load, in whatever order its threads came.
abbrev pub FreshSummariesAreOfTheLoad : Type 0
FreshSummariesAreOfTheLoad =
    (load : Load) (report : Report) → IsLoad load → IsFaithful ⊥ true fresh_basis (generated load) report → summary_shown report ≡ load_summary load
