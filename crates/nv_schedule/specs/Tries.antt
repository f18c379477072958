-- Tries: the tries of a call that is made one step at a time, and again where another one stood in its way.
use Rattle.std.specs.Prelude.{◌≡◌, ℕ, Bool, true, false, List, length, take, IfOk, Option, Result, Ok, Err}
use Rattle.std.specs.List.{concat, sum}
use Rattle.nv_plain.specs.Calls.{filled}
use Rattle.nv_plain.specs.declared.call.Reply.{Reply}
use Rattle.nv_plain.specs.declared.call.Reply.TheVariants as replies
use Rattle.nv_table.specs.state.States.{PassState}
use Rattle.nv_mount.specs.declared.fds.Fd.{Fd}
use Rattle.nv_mirror.specs.declared.answers.Done.{Done}
use Rattle.nv_mirror.specs.declared.answers.Refusal.{Refusal}
use Rattle.nv_mirror.specs.declared.answers.Refusal.TheVariants.{Busy}
use Rattle.nv_calls.specs.fsync.SyncMachines.{IsSyncEnded}
use Rattle.nv_calls.specs.fsync.SyncRuns.{file_of_fd}
use Rattle.nv_calls.specs.calls.Asks.{asks_readv, asks_writev}
use Rattle.nv_calls.specs.histories.Tries.{Try, WereBusy, WereBusyAs}
use Rattle.nv_calls.specs.reads.Reads.{IsReadOver, IsReadvOver}
use Rattle.nv_calls.specs.writes.Writes.{IsWriteOver, IsWritevOver, WereMadeAgain, WereMadeAgainAs, is_made_again}
use Rattle.nv_trace.specs.declared.trace_call.TraceCall.{TraceCall}
use Rattle.nv_trace.specs.declared.trace_call.TraceCall.TheVariants.{Pread, Pwrite, Preadv, Pwritev, Fsync}
use Rattle.nv_runner.specs.declared.answer.Answer.{Answer}
use Rattle.nv_runner.specs.declared.answer.Answer.TheVariants.{Placed, Refused}
use Rattle.nv_runner.specs.OpenWrites.{without_place}

-- the call begins anew: a read that found a lock held, and a write that did, or whose numbers another one drew
abbrev pub begins_anew_by : TraceCall → Refusal → Bool
begins_anew_by (Pread fd at len) (Busy cell) = true
begins_anew_by (Pwrite fd at bytes) refusal = is_made_again refusal
begins_anew_by (Preadv fd at lens) (Busy cell) = true
begins_anew_by (Pwritev fd at parts) refusal = is_made_again refusal
begins_anew_by call refusal = false

abbrev pub begins_anew : TraceCall → Result Done Refusal → Bool
begins_anew call (Ok done) = false
begins_anew call (Err refusal) = begins_anew_by call refusal

-- Some tries of a call came one after another, and after each it began anew.
abbrev pub WereTried : List Fd → TraceCall → (start now : PassState) → Type 0
WereTried fds (Pread fd at len) start now = (tries : List Try) × WereBusy fds fd at len tries start now
WereTried fds (Pwrite fd at bytes) start now = (tries : List Refusal) × WereMadeAgain fds fd at bytes tries start now
WereTried fds (Preadv fd at lens) start now = (tries : List Try) × WereBusyAs (asks_readv at lens) fds fd at (sum lens) tries start now
WereTried fds (Pwritev fd at parts) start now = (tries : List Refusal) × WereMadeAgainAs (asks_writev at parts) fds fd at (length (concat parts)) tries start now
WereTried fds (Fsync fd) start now = now ≡ start

-- A try is over: what a read left in its list, as many bytes as it asks for, and what it came to. A write that is done has written all its bytes.
abbrev pub IsTryOver : List Fd → TraceCall → (list : List ℕ) → (begun now : PassState) → Result Done Refusal → Type 0
IsTryOver fds (Pread fd at len) list begun now result = (length list ≡ len) × IsReadOver fds fd at list begun now result
IsTryOver fds (Pwrite fd at bytes) list begun now result = IfOk result (λ done. done.len ≡ length bytes) × IsWriteOver fds fd at bytes begun now result
IsTryOver fds (Preadv fd at lens) list begun now result = (length list ≡ sum lens) × IsReadvOver fds fd at lens list begun now result
IsTryOver fds (Pwritev fd at parts) list begun now result = IfOk result (λ done. done.len ≡ length (concat parts)) × IsWritevOver fds fd at parts begun now result
IsTryOver fds (Fsync fd) list begun now result = IsSyncEnded (file_of_fd fds fd) begun now result

-- ---- its answer

-- of a call without a place: a write that a device fault ended is open, from the number on that its pass tells
abbrev pub refused_answer : TraceCall → Refusal → (drawn : Option ℕ) → Answer
refused_answer (Pwrite fd at bytes) refusal drawn = without_place refusal drawn
refused_answer (Pwritev fd at parts) refusal drawn = without_place refusal drawn
refused_answer call refusal drawn = Refused refusal

-- the reply of one that has its place
abbrev pub reply_to : TraceCall → (list : List ℕ) → (len : ℕ) → Reply
reply_to (Pread fd at asked) list len = replies.Bytes (take len list)
reply_to (Pwrite fd at bytes) list len = replies.Count len
reply_to (Preadv fd at lens) list len = replies.Parts (filled lens (take len list))
reply_to (Pwritev fd at parts) list len = replies.Count len
reply_to (Fsync fd) list len = replies.Done

abbrev pub answer_of : TraceCall → (list : List ℕ) → Result Done Refusal → (drawn : Option ℕ) → Answer
answer_of call list (Ok done) drawn = Placed done.place (reply_to call list done.len)
answer_of call list (Err refusal) drawn = refused_answer call refusal drawn
