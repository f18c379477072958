-- What each trace that was read keeps to.
use Rattle.std.specs.Prelude.{◌≡◌, ◌≢◌, ℕ, ◌<◌, ◌≤◌, [], length, true, false, All}
use Rattle.std.specs.List.{concat, slice_index_or, sum}
use Rattle.std.specs.List.Sorted.{IsNonDecreasingBy, IsStrictlyIncreasing}
use Rattle.nv_plain.specs.Layouts.{mount_layout}
use Rattle.nv_plain.specs.Names.{is_name}
use Rattle.nv_trace.specs.Grammar.{IsPartCount, largest_offset, largest_count, last_thread, most_files, most_descriptors}
use Rattle.nv_trace.specs.Forms.{has_rounds, has_steps}
use Rattle.nv_trace.specs.Said.{said_place}
use Rattle.nv_trace.specs.Tokens.{last_cut}
use Rattle.nv_trace.specs.Traced.{Traced, has_begun, has_tokens, lines_in}
use Rattle.nv_trace.specs.declared.statement.Statement.{Statement}
use Rattle.nv_trace.specs.declared.statement.Statement.TheVariants.{File, Opened, Call, Round}
use Rattle.nv_trace.specs.declared.token.LineToken.{LineToken}
use Rattle.nv_trace.specs.declared.token.LineToken.TheVariants.{Inside, Crash}
use Rattle.nv_trace.specs.declared.token.Token.{Token}
use Rattle.nv_trace.specs.declared.token.Token.TheVariants.{Advance, Cut}
use Rattle.nv_trace.specs.declared.token.Turn.TheVariants.{Thread, Cleaner}
use Rattle.nv_trace.specs.declared.trace_call.TraceCall.{TraceCall}
use Rattle.nv_trace.specs.declared.trace_call.TraceCall.TheVariants.{Pread, Pwrite, Preadv, Pwritev, Fsync}

-- a call's descriptor is one of so many, and its numbers lie in the grammar's ranges
abbrev pub IsCallWithin : ℕ → TraceCall → Type 0
IsCallWithin descriptors (Pread fd at len) = (fd < descriptors) × (at ≤ largest_offset) × (len ≤ largest_count)
IsCallWithin descriptors (Pwrite fd at bytes) = (fd < descriptors) × (at ≤ largest_offset) × (length bytes ≤ largest_count)
IsCallWithin descriptors (Preadv fd at lens) = (fd < descriptors) × (at ≤ largest_offset) × IsPartCount (length lens) × (sum lens ≤ largest_count)
IsCallWithin descriptors (Pwritev fd at parts) =
    (fd < descriptors) × (at ≤ largest_offset) × IsPartCount (length parts) × (length (concat parts) ≤ largest_count)
IsCallWithin descriptors (Fsync fd) = fd < descriptors

-- a token's thread is one that a call may have, and the number of a device call is one at which it may be cut
abbrev pub IsTokenWithin : Token → Type 0
IsTokenWithin (Advance (Thread thread) reach) = thread ≤ last_thread
IsTokenWithin (Advance Cleaner reach) = Unit {0}
IsTokenWithin (Cut number) = (1 ≤ number) × (number ≤ last_cut)

-- so is a token of a life; whatever a crash leaves is allowed
abbrev pub IsLineTokenWithin : LineToken → Type 0
IsLineTokenWithin (Inside token) = IsTokenWithin token
IsLineTokenWithin (Crash pick) = Unit {0}

-- a statement may follow: a name that is new, a descriptor of a file that is declared, a call on a descriptor, a new round
abbrev pub MayFollow : Traced → Statement → Type 0
MayFollow trace (File name) =
    (length trace.names < most_files) × (is_name mount_layout.name_limit name ≡ true) × (said_place name trace.names ≡ length trace.names) × (has_begun trace ≡ false)
MayFollow trace (Opened descriptor) =
    (length trace.descriptors < most_descriptors) × (descriptor.file < length trace.names) × (has_begun trace ≡ false)
MayFollow trace (Call thread call) = (thread ≤ last_thread) × IsCallWithin (length trace.descriptors) call × (has_tokens trace ≡ false)
MayFollow trace Round = has_rounds trace.form ≡ true

-- At most 64 files, whose names are allowed and differ; at most 64 descriptors of them; calls on these, by eight threads;
-- and rounds, which don't fall along the calls, or tokens, in one life or more, where the form has them.
pub record IsWellFormed (trace : Traced) : Type 0 where
  pub names : length trace.names ≤ most_files
  pub allowed : All (λ name. is_name mount_layout.name_limit name ≡ true) trace.names
  pub distinct : (i j : ℕ) → i < j → j < length trace.names → slice_index_or trace.names i [] ≢ slice_index_or trace.names j []
  pub descriptors : length trace.descriptors ≤ most_descriptors
  pub files : All (λ descriptor. descriptor.file < length trace.names) trace.descriptors
  pub calls : All (λ traced. IsCallWithin (length trace.descriptors) traced.call) trace.calls
  pub threads : All (λ traced. traced.thread ≤ last_thread) trace.calls
  pub rounds : All (λ traced. traced.round ≤ trace.rounds) trace.calls
  pub round_order : IsNonDecreasingBy (λ traced. traced.round) trace.calls
  pub no_rounds : has_rounds trace.form ≡ false → trace.rounds ≡ 0
  pub tokens : All IsTokenWithin trace.tokens
  pub no_tokens : has_steps trace.form ≡ false → trace.tokens ≡ []
  pub lives : All (λ life. All IsTokenWithin life.tokens) trace.lives
  pub no_lives : has_steps trace.form ≡ false → trace.lives ≡ []

-- the calls stand in the order of their lines, whose numbers are below this one, and there are fewer calls
pub record IsNumberedBelow (number : ℕ) (trace : Traced) : Type 0 where
  pub line_order : IsStrictlyIncreasing (lines_in trace)
  pub below : All (λ traced. traced.line < number) trace.calls
  pub few : length trace.calls < number
