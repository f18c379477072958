-- Written: what a write writes, bytes or parts, and the call that it is.
use Rattle.std.specs.Prelude.{◌≡◌, ℕ, List, length, Some}
use Rattle.std.specs.List.{concat}
use Rattle.nv_plain.specs.declared.call.FileCall.{FileCall}
use Rattle.nv_plain.specs.declared.call.Reply.TheVariants.{Count}
use Rattle.nv_table.specs.state.Views.{PassView}
use Rattle.nv_mount.specs.declared.fds.Fd.{Fd}
use Rattle.nv_mirror.specs.declared.answers.Done.{Done}
use Rattle.nv_mirror.specs.Answers.{IsPlacedAs}
use Rattle.nv_calls.specs.calls.Asks.{asks_write, asks_writev}
use Rattle.nv_calls.specs.fsync.SyncRuns.{file_of_fd}
use Rattle.nv_trace.specs.declared.trace_call.TraceCall.{TraceCall}
use Rattle.nv_trace.specs.declared.trace_call.TraceCall.TheVariants.{Pwrite, Pwritev}
use Rattle.nv_runner.specs.declared.written.Written.{Written}
use Rattle.nv_runner.specs.declared.written.Written.TheVariants.{Bytes, Parts}

-- the bytes that go to the file: those of parts joined in order
abbrev pub bytes_in : Written → List ℕ
bytes_in (Bytes bytes) = bytes.now
bytes_in (Parts parts) = concat parts.now

-- what its file is asked for
abbrev pub asks_in : Written → (at : ℕ) → (file : ℕ) → FileCall
asks_in (Bytes bytes) at = asks_write at bytes.now
asks_in (Parts parts) at = asks_writev at parts.now

-- the call of a trace
abbrev pub call_in : Written → (fd at : ℕ) → TraceCall
call_in (Bytes bytes) fd at = Pwrite fd at bytes.now
call_in (Parts parts) fd at = Pwritev fd at parts.now

-- It has its place, as a write of the descriptor's file, and all its bytes.
abbrev pub IsWritten : List Fd → (fd at : ℕ) → Written → (old new : PassView) → Done → Type 0
IsWritten fds fd at written old new done =
    (file : ℕ) × (file_of_fd fds fd ≡ Some file) × (done.len ≡ length (bytes_in written))
    × IsPlacedAs old new (asks_in written at file) (Count (length (bytes_in written))) done.place
