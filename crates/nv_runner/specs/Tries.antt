-- Tries: how often a call was made, and what each try before the last was answered.
use Rattle.std.specs.Prelude.{◌≡◌, ℕ, zero, suc, true, List, [], ◌∷◌, length, Option, Some, Result, Ok, Err}
use Rattle.std.specs.List.{concat, sum}
use Rattle.nv_plain.specs.declared.call.FileCall.{FileCall}
use Rattle.nv_table.specs.state.States.{PassState}
use Rattle.nv_mount.specs.declared.fds.Fd.{Fd}
use Rattle.nv_mirror.specs.declared.answers.Done.{Done}
use Rattle.nv_mirror.specs.declared.answers.Refusal.{Refusal}
use Rattle.nv_mirror.specs.declared.answers.Refusal.TheVariants.{Again}
use Rattle.nv_mirror.specs.Answers.{refusal_in_answer}
use Rattle.nv_mirror.specs.PassSteps.{is_fault}
use Rattle.nv_calls.specs.fsync.SyncRuns.{IsSyncRun, file_of_fd}
use Rattle.nv_calls.specs.calls.Asks.{asks_read, asks_readv, asks_write, asks_writev}
use Rattle.nv_calls.specs.histories.Tries.{IsTriedAs}
use Rattle.nv_calls.specs.writes.Writes.{IsWriteTriedAs}
use Rattle.nv_clean.specs.Answers.{IsCleanOver}
use Rattle.nv_clean.specs.declared.batch.CleanRefusal.{CleanRefusal}
use Rattle.nv_clean.specs.declared.clean.Cleaned.{Cleaned}
use Rattle.nv_trace.specs.declared.trace_call.TraceCall.{TraceCall}
use Rattle.nv_trace.specs.declared.trace_call.TraceCall.TheVariants.{Pread, Pwrite, Preadv, Pwritev, Fsync}
use Rattle.nv_runner.specs.declared.answer.Answer.{Answer}
use Rattle.nv_runner.specs.declared.answer.Answer.TheVariants.{Placed, Refused, Open}

-- ---- a write for which the log had no room

-- HEAD and TAIL as a write found them that the log had no room for
pub record FullTry : Type 0 where
  pub head : ℕ
  pub tail : ℕ

-- A pass ran a batch of the cleaner, of at most so many entries, whatever it came to.
pub record HasRunBatch (worker : Option ℕ) (start now : PassState) : Type 0 where
  pub most : ℕ
  pub may : worker ≡ Some most
  pub came : Result Cleaned CleanRefusal
  pub over : IsCleanOver most start now came

-- So many came one after another.
abbrev pub RanBatches : (worker : Option ℕ) → (count : ℕ) → (start now : PassState) → Type 0
RanBatches worker zero start now = now ≡ start
RanBatches worker (suc count) start now = (middle : PassState) × RanBatches worker count start middle × HasRunBatch worker middle now

-- A pass ran batches, as many as it came to, and did nothing else; none where none may be run.
pub record HasRunBatches (worker : Option ℕ) (start now : PassState) : Type 0 where
  pub count : ℕ
  pub ran : RanBatches worker count start now

-- Writes of so many bytes, asked so, came one after another, the last of them first. Each was answered that the log has no room, maybe behind others that found a lock held or another write draw its numbers; and behind each its pass ran a batch.
abbrev pub FoundNoRoom : (asks : (file : ℕ) → FileCall) → List Fd → (worker : Option ℕ) → (fd at len : ℕ) → List FullTry → (start now : PassState) → Type 0
FoundNoRoom asks fds worker fd at len [] start now = now ≡ start
FoundNoRoom asks fds worker fd at len (last ∷ earlier) start now =
    (middle : PassState) × FoundNoRoom asks fds worker fd at len earlier start middle × (full : PassState)
    × IsWriteTriedAs asks fds fd at len middle full (Err (Again last.head last.tail)) × HasRunBatch worker full now

-- After some that did, one more write came, which was answered so.
pub record IsWriteMade (asks : (file : ℕ) → FileCall) (fds : List Fd) (worker : Option ℕ) (fd at len : ℕ) (start now : PassState) (result : Result Done Refusal) : Type 0 where
  pub full : List FullTry
  pub last : PassState
  pub before : FoundNoRoom asks fds worker fd at len full start last
  pub tried : IsWriteTriedAs asks fds fd at len last now result

-- Reads into so many bytes, asked so, came until one found no lock held, which was answered so.
abbrev pub IsReadMade : (asks : (len file : ℕ) → FileCall) → List Fd → (fd at len : ℕ) → (start now : PassState) → Result Done Refusal → Type 0
IsReadMade asks fds fd at len start now result = (list : List ℕ) × (length list ≡ len) × IsTriedAs asks fds fd at list start now result

-- ---- any call

-- A call was made until it was answered so: a read again as long as a lock was found held; a write as long as that was so or another write drew its numbers, and behind a batch where the log had no room and one may be run; a
-- sync once. Behind no other answer was it made again, and nothing else was done between.
abbrev pub IsMade : List Fd → (worker : Option ℕ) → TraceCall → (start now : PassState) → Result Done Refusal → Type 0
IsMade fds worker (Pread fd at len) start now result = IsReadMade (asks_read at) fds fd at len start now result
IsMade fds worker (Pwrite fd at bytes) start now result = IsWriteMade (asks_write at bytes) fds worker fd at (length bytes) start now result
IsMade fds worker (Preadv fd at lens) start now result = IsReadMade (asks_readv at lens) fds fd at (sum lens) start now result
IsMade fds worker (Pwritev fd at parts) start now result = IsWriteMade (asks_writev at parts) fds worker fd at (length (concat parts)) start now result
IsMade fds worker (Fsync fd) start now result = IsSyncRun (file_of_fd fds fd) start now result

-- what the last try of a call was answered: its place, its refusal, or that a device fault ended it, where it is open
abbrev pub AnswersAs : Answer → Result Done Refusal → Type 0
AnswersAs (Placed place reply) result = (len : ℕ) × (result ≡ Ok record { place = place; len = len })
AnswersAs (Refused refusal) result = result ≡ Err refusal
AnswersAs (Open number) result = is_fault (refusal_in_answer result) ≡ true

-- by its last try the call was answered so
pub record IsMadeFor (fds : List Fd) (worker : Option ℕ) (call : TraceCall) (start now : PassState) (answer : Answer) : Type 0 where
  pub result : Result Done Refusal
  pub by : IsMade fds worker call start now result
  pub answers : AnswersAs answer result
