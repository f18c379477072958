-- Calls: what the answer of one call tells.
use Rattle.std.specs.Prelude.{◌≡◌, ◌≢◌, ℕ, Bool, true, false, ◌&&◌, is_some, List, [], ◌∷◌, ◌++◌, length, Option, Some, None, Err}
use Rattle.std.specs.List.{concat, sum}
use Rattle.nv_plain.specs.Modes.{can_read, can_write}
use Rattle.nv_plain.specs.declared.call.FileCall.{FileCall}
use Rattle.nv_plain.specs.declared.call.FileCall.TheVariants.{Read, Write, Readv, Writev, Sync}
use Rattle.nv_core.specs.state.Passes.{is_write, plain_call}
use Rattle.nv_core.specs.state.Words.{Sizes}
use Rattle.nv_table.specs.invariant.Idle.{IsLater}
use Rattle.nv_table.specs.state.States.{PassState}
use Rattle.nv_mount.specs.declared.fds.Fd.{Fd}
use Rattle.nv_mirror.specs.declared.answers.Refusal.{Refusal}
use Rattle.nv_mirror.specs.declared.answers.Refusal.TheVariants.{Busy, Again}
use Rattle.nv_mirror.specs.Answers.{IsPlacedAs, IsUnplaced}
use Rattle.nv_mirror.specs.PassSteps.{is_fault}
use Rattle.nv_calls.specs.calls.EarlyRefusals.{early_refusal}
use Rattle.nv_calls.specs.fsync.SyncRuns.{file_of_fd}
use Rattle.nv_calls.specs.histories.Faults.{OpenWrite, open_writes}
use Rattle.nv_calls.specs.histories.Heeds.{HasSeenStop, tells_stop}
use Rattle.nv_calls.specs.writes.Writes.{is_made_again}
use Rattle.nv_trace.specs.declared.trace_call.TraceCall.{TraceCall}
use Rattle.nv_trace.specs.declared.trace_call.TraceCall.TheVariants.{Pread, Pwrite, Preadv, Pwritev, Fsync}
use Rattle.nv_runner.specs.declared.answer.Answer.{Answer}
use Rattle.nv_runner.specs.declared.answer.Answer.TheVariants.{Placed, Refused, Open}
use Rattle.nv_runner.specs.Runs.{GoesOn, entries_drawn}
use Rattle.nv_runner.specs.Tries.{IsMadeFor}

-- a call's descriptor
abbrev pub fd_of : TraceCall → ℕ
fd_of (Pread fd at len) = fd
fd_of (Pwrite fd at bytes) = fd
fd_of (Preadv fd at lens) = fd
fd_of (Pwritev fd at parts) = fd
fd_of (Fsync fd) = fd

-- the call of a file
abbrev pub call_on : TraceCall → (file : ℕ) → FileCall
call_on (Pread fd at len) file = Read file at len
call_on (Pwrite fd at bytes) file = Write file at bytes
call_on (Preadv fd at lens) file = Readv file at lens
call_on (Pwritev fd at parts) file = Writev file at parts
call_on (Fsync fd) file = Sync file

-- the log had no room for a write's entries
abbrev pub wants_room : Refusal → Bool
wants_room (Again head tail) = true
wants_room refusal = false

-- a read is made again where a lock was found held
abbrev pub IsLastingRead : Refusal → Type 0
IsLastingRead refusal = (cell : ℕ) → refusal ≢ Busy cell

-- A write is made again for that too, where another write drew its numbers, and where the log had no room and a cleaner's batch may be run. One that a device fault ended is open.
abbrev pub IsLastingWrite : (worker : Option ℕ) → Refusal → Type 0
IsLastingWrite worker refusal = (is_made_again refusal ≡ false) × (wants_room refusal && is_some worker ≡ false) × (is_fault (Some refusal) ≡ false)

-- Trying again doesn't mend it: it is not that a lock was found held, or that another write drew its numbers; nor that the log had no room, where a cleaner's batch may be run. A write that a
-- device fault ended is not refused, but open.
abbrev pub IsLasting : TraceCall → (worker : Option ℕ) → Refusal → Type 0
IsLasting (Pread fd at len) worker refusal = IsLastingRead refusal
IsLasting (Pwrite fd at bytes) worker refusal = IsLastingWrite worker refusal
IsLasting (Preadv fd at lens) worker refusal = IsLastingRead refusal
IsLasting (Pwritev fd at parts) worker refusal = IsLastingWrite worker refusal
IsLasting (Fsync fd) worker refusal = Unit {0}

-- A call has no place, and was refused so.
pub record IsRefused (worker : Option ℕ) (call : TraceCall) (start now : PassState) (refusal : Refusal) : Type 0 where
  pub kept : IsUnplaced start.view now.view
  pub lasting : IsLasting call worker refusal

-- a write that nothing that it asks for bars
abbrev pub IsUnbarredWrite : Sizes → List Fd → TraceCall → Type 0
IsUnbarredWrite sizes fds (Pwrite fd at bytes) = early_refusal can_write sizes fds fd at (length bytes) ≡ None
IsUnbarredWrite sizes fds (Pwritev fd at parts) = early_refusal can_write sizes fds fd at (length (concat parts)) ≡ None
IsUnbarredWrite sizes fds call = ⊥

-- A call has no place, and is a write of some bytes, of its descriptor's file, which a device fault ended: its pass knows that STOP is set.
pub record IsEndedByFault (fds : List Fd) (call : TraceCall) (start now : PassState) : Type 0 where
  pub kept : IsUnplaced start.view now.view
  pub seen : HasSeenStop now
  pub unbarred : IsUnbarredWrite start.view.opened.sizes fds call
  pub file : ℕ
  pub file_is : file_of_fd fds (fd_of call) ≡ Some file
  pub write : is_write (plain_call (call_on call file)) ≡ true

-- nothing that it asks for bars a call, but that a sync has its descriptor's file
abbrev pub IsUnbarred : Sizes → List Fd → TraceCall → Type 0
IsUnbarred sizes fds (Pread fd at len) = early_refusal can_read sizes fds fd at len ≡ None
IsUnbarred sizes fds (Pwrite fd at bytes) = early_refusal can_write sizes fds fd at (length bytes) ≡ None
IsUnbarred sizes fds (Preadv fd at lens) = early_refusal can_read sizes fds fd at (sum lens) ≡ None
IsUnbarred sizes fds (Pwritev fd at parts) = early_refusal can_write sizes fds fd at (length (concat parts)) ≡ None
IsUnbarred sizes fds (Fsync fd) = Unit {0}

-- a call that has its place was not barred
abbrev pub IsAdmitted : Sizes → List Fd → TraceCall → Answer → Type 0
IsAdmitted sizes fds call (Placed place reply) = IsUnbarred sizes fds call
IsAdmitted sizes fds call answer = Unit {0}

-- What an answer tells: that the call of the descriptor's file has its place behind all that the pass had seen, with the reply of plain files after the calls before it; or why it has none.
abbrev pub Tells : List Fd → (worker : Option ℕ) → TraceCall → (start now : PassState) → Answer → Type 0
Tells fds worker call start now (Placed place reply) = (file : ℕ) × (file_of_fd fds (fd_of call) ≡ Some file) × IsPlacedAs start.view now.view (call_on call file) reply place
Tells fds worker call start now (Refused refusal) = IsRefused worker call start now refusal
Tells fds worker call start now (Open number) = IsEndedByFault fds call start now

-- an answer tells that STOP is set
abbrev pub says_stop : Answer → Bool
says_stop (Placed place reply) = false
says_stop (Refused refusal) = tells_stop (Err refusal)
says_stop (Open number) = true

-- ---- the write that an answer leaves open, of its descriptor's file: the plain one that it is made as

abbrev pub opened_on : (file : Option ℕ) → TraceCall → (number : ℕ) → List OpenWrite
opened_on (Some file) call number = record { call = plain_call (call_on call file); first = number } ∷ []
opened_on None call number = []

abbrev pub opened_by : List Fd → TraceCall → Answer → List OpenWrite
opened_by fds call (Open number) = opened_on (file_of_fd fds (fd_of call)) call number
opened_by fds call answer = []

-- the pass keeps that one, before those that it had, and no other
abbrev pub OpensAs : List Fd → TraceCall → (start now : PassState) → Answer → Type 0
OpensAs fds call start now answer = open_writes now ≡ opened_by fds call answer ++ open_writes start

-- The call was answered so, by the last of its tries, and its pass is the same one: it knows that STOP is set where it knew before, or was told, and has drawn the call's entries, if any.
pub record IsAnswered (fds : List Fd) (worker : Option ℕ) (call : TraceCall) (start now : PassState) (answer : Answer) : Type 0 where
  pub opened : now.view.opened ≡ start.view.opened
  pub later : IsLater start now
  pub made : IsMadeFor fds worker call start now answer
  pub told : Tells fds worker call start now answer
  pub stays : HasSeenStop start → HasSeenStop now
  pub stop : says_stop answer ≡ true → HasSeenStop now
  pub opens : OpensAs fds call start now answer
  pub admitted : IsAdmitted now.view.opened.sizes fds call answer
  pub on : GoesOn worker (entries_drawn now.view.opened.sizes call answer) start now
