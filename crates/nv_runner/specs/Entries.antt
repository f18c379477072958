-- Entries: how many of the log's entries the calls of a trace take, where a page has so many bytes.
use Rattle.std.specs.Prelude.{ℕ, List, length, sum_by}
use Rattle.std.specs.List.{concat}
use Rattle.nv_plain.specs.Pieces.{pages_touched}
use Rattle.nv_trace.specs.declared.trace_call.TraceCall.{TraceCall}
use Rattle.nv_trace.specs.declared.trace_call.TraceCall.TheVariants.{Pread, Pwrite, Preadv, Pwritev, Fsync}
use Rattle.nv_trace.specs.declared.trace_call.TracedCall.{TracedCall}

-- how many entries a call takes: a write one for each page that it touches
abbrev pub entries_taken : (page : ℕ) → TraceCall → ℕ
entries_taken page (Pread fd at len) = 0
entries_taken page (Pwrite fd at bytes) = pages_touched at (length bytes) page
entries_taken page (Preadv fd at lens) = 0
entries_taken page (Pwritev fd at parts) = pages_touched at (length (concat parts)) page
entries_taken page (Fsync fd) = 0

-- and some calls
abbrev pub entries_of_calls : (page : ℕ) → List TracedCall → ℕ
entries_of_calls page calls = sum_by (λ traced. entries_taken page traced.call) calls
