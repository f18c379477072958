-- Read machines: where a read of a descriptor stands that is made one step at a time.
use Rattle.std.specs.Prelude.{◌≡◌, ℕ, ◌+◌, ◌*◌, ◌≤◌, List, length, take, Option, Some, None, option_map, Result, Ok, Err}
use Rattle.nv_plain.specs.Modes.{can_read}
use Rattle.nv_plain.specs.Pieces.{pages_touched}
use Rattle.nv_plain.specs.declared.call.FileCall.{FileCall}
use Rattle.nv_plain.specs.declared.call.FileCall.TheVariants.{Read}
use Rattle.nv_core.specs.state.Words.{Sizes}
use Rattle.nv_table.specs.invariant.Idle.{IsIdle}
use Rattle.nv_table.specs.state.States.{PassState}
use Rattle.nv_mount.specs.declared.fds.Fd.{Fd}
use Rattle.nv_op.specs.declared.kinds.Kind.{Kind}
use Rattle.nv_mirror.specs.declared.answers.Done.{Done}
use Rattle.nv_mirror.specs.declared.answers.Refusal.{Refusal}
use Rattle.nv_mirror.specs.Answers.{refusal_in_answer}
use Rattle.nv_mirror.specs.PassSteps.{device_fault}
use Rattle.nv_cache.specs.declared.read.RunningRead.{RunningRead}
use Rattle.nv_cache.specs.declared.read.RunningRead.TheVariants.{Over}
use Rattle.nv_cache.specs.ReadSteps.{first_kind, read_answer, read_fault, read_kind}
use Rattle.nv_cache.specs.RunningReads.{IsOpen, IsUnderWay, asked_in, page_steps, read_measure}
use Rattle.nv_calls.specs.calls.Advances.{Standing}
use Rattle.nv_calls.specs.calls.Asks.{asks_read, asks_readv}
use Rattle.nv_calls.specs.calls.CallAnswers.{done_of}
use Rattle.nv_calls.specs.calls.EarlyRefusals.{early_refusal}
use Rattle.nv_calls.specs.calls.Scattered.{Scattered}
use Rattle.nv_calls.specs.declared.progress.Progress.{Progress}
use Rattle.nv_calls.specs.declared.progress.Progress.TheVariants.{More, Ended}
use Rattle.nv_calls.specs.declared.reading.ReadControl.{ReadControl}
use Rattle.nv_calls.specs.declared.reading.ReadControl.TheVariants as reads
use Rattle.nv_calls.specs.declared.reading.ReadMachine.{ReadMachine}
use Rattle.nv_calls.specs.fsync.SyncRuns.{file_of_fd}
use Rattle.nv_calls.specs.reads.Reads.{IsReadOverAs, got_by}

-- ---- what comes next, and what has come of it

-- what it asks for is refused before any step
abbrev pub early_of : Sizes → List Fd → ReadMachine → Option Refusal
early_of sizes fds m = early_refusal can_read sizes fds m.fd m.at m.len

-- the kind of its next step, where no device call before that fails; before the first one that of a read that isn't refused so
abbrev pub kind_at : Sizes → (len : ℕ) → ReadControl → Kind
kind_at sizes len reads.Begin = first_kind len
kind_at sizes len (reads.Running read) = read_kind sizes read

abbrev pub next_kind_of : Sizes → ReadMachine → Kind
next_kind_of sizes m = kind_at sizes m.len m.control

-- its answer, once it has its place
abbrev pub answer_at : ReadControl → Option Done
answer_at reads.Begin = None
answer_at (reads.Running read) = read_answer read

abbrev pub placed_by : ReadMachine → Option Done
placed_by m = answer_at m.control

-- the fault of a device call before one of its steps, once there was one
abbrev pub fault_at : ReadControl → Option Refusal
fault_at reads.Begin = None
fault_at (reads.Running read) = read_fault read

abbrev pub fault_so_far : ReadMachine → Option Refusal
fault_so_far m = fault_at m.control

abbrev pub standing : Sizes → ReadMachine → Standing
standing sizes m = record { kind = next_kind_of sizes m; place = option_map (λ (done : Done). done.place) (placed_by m); fault = fault_so_far m }

-- ---- since a start

-- It isn't refused before its first step, and this is that read of its descriptor's file, asked so, which has made some steps. What it has of a page that it loads lies
-- in front of the machine's room.
pub record IsOfFile (asked : (len file : ℕ) → FileCall) (fds : List Fd) (m : ReadMachine) (list : List ℕ) (read : RunningRead) (start now : PassState) : Type 0 where
  pub early : early_of start.view.opened.sizes fds m ≡ None
  pub file : ℕ
  pub file_is : file_of_fd fds m.fd ≡ Some file
  pub asks : asked_in (asked m.len file) read now ≡ asked m.len file
  pub way : IsUnderWay (Read file m.at m.len) read list (take now.view.opened.sizes.page m.room) start now

-- Its pass was idle at the start. It has made no step yet, or is under way.
abbrev pub StandsAt : (asked : (len file : ℕ) → FileCall) → List Fd → ReadMachine → (list : List ℕ) → (start now : PassState) → ReadControl → Type 0
StandsAt asked fds m list start now reads.Begin = IsIdle start × (now ≡ start)
StandsAt asked fds m list start now (reads.Running read) = IsOpen read × IsOfFile asked fds m list read start now

pub record IsReadUnderWayAs (asked : (len file : ℕ) → FileCall) (fds : List Fd) (m : ReadMachine) (list : List ℕ) (start now : PassState) : Type 0 where
  pub size : length list ≡ m.len
  pub stands : StandsAt asked fds m list start now m.control

-- It goes on from a start, or has told what a whole read tells: then its machine tells the same answer, and whether that is a device fault.
abbrev pub ReadGoesAs : (asked : (len file : ℕ) → FileCall) → List Fd → (start : PassState) → ReadMachine → (list : List ℕ) → (now : PassState) → Progress → Type 0
ReadGoesAs asked fds start m list now More = IsReadUnderWayAs asked fds m list start now
ReadGoesAs asked fds start m list now (Ended result) =
    (placed_by m ≡ done_of result) × (fault_so_far m ≡ device_fault (refusal_in_answer result)) × IsReadOverAs asked fds m.fd m.at list start now result

-- so a read into a list
abbrev pub IsReadUnderWay : List Fd → ReadMachine → (list : List ℕ) → (start now : PassState) → Type 0
IsReadUnderWay fds m list start now = IsReadUnderWayAs (asks_read m.at) fds m list start now

abbrev pub ReadGoes : List Fd → (start : PassState) → ReadMachine → (list : List ℕ) → (now : PassState) → Progress → Type 0
ReadGoes fds start m list now progress = ReadGoesAs (asks_read m.at) fds start m list now progress

-- and into parts
abbrev pub IsReadvUnderWay : List Fd → ReadMachine → Scattered → (start now : PassState) → Type 0
IsReadvUnderWay fds m parts start now = IsReadUnderWayAs (asks_readv m.at parts.lens) fds m parts.list start now

abbrev pub ReadvGoes : List Fd → (start : PassState) → ReadMachine → Scattered → (now : PassState) → Progress → Type 0
ReadvGoes fds start m parts now progress = ReadGoesAs (asks_readv m.at parts.lens) fds start m parts.list now progress

-- how many bytes they have got: none until it is over
abbrev pub got_now : RunningRead → ℕ
got_now (Over result) = got_by result
got_now read = 0

abbrev pub got_so_far : Progress → ℕ
got_so_far More = 0
got_so_far (Ended result) = got_by result

-- ---- an advance

-- it is the same read
pub record IsSameRead (m next : ReadMachine) : Type 0 where
  pub fd : next.fd ≡ m.fd
  pub at : next.at ≡ m.at
  pub len : next.len ≡ m.len

-- how many steps may still come
abbrev pub measure_at : Sizes → ReadMachine → ReadControl → ℕ
measure_at sizes m reads.Begin = 14 + pages_touched m.at m.len sizes.page * (page_steps sizes + 3)
measure_at sizes m (reads.Running read) = read_measure sizes read

abbrev pub measure : Sizes → ReadMachine → ℕ
measure sizes m = measure_at sizes m m.control

-- ---- its parts

-- what an advance came to behind which the read is so
abbrev pub progress_of : RunningRead → Progress
progress_of (Over result) = Ended result
progress_of read = More

-- its read, which stands where it stood
pub record IsBegunAs (sizes : Sizes) (fds : List Fd) (m : ReadMachine) (read : RunningRead) : Type 0 where
  pub more : IsOpen read
  pub kind : read_kind sizes read ≡ next_kind_of sizes m
  pub answer : read_answer read ≡ placed_by m
  pub fault : read_fault read ≡ fault_so_far m
  pub fewer : read_measure sizes read ≤ measure sizes m
  pub way : (asked : (len file : ℕ) → FileCall) (list : List ℕ) (start now : PassState) → now.view.opened.sizes ≡ sizes → IsReadUnderWayAs asked fds m list start now → IsOfFile asked fds m list read start now

-- unless it is refused before its first step
abbrev pub IsBegun : Sizes → List Fd → ReadMachine → Result RunningRead Refusal → Type 0
IsBegun sizes fds m (Ok read) = IsBegunAs sizes fds m read
IsBegun sizes fds m (Err refusal) = (m.control ≡ reads.Begin) × (early_of sizes fds m ≡ Some refusal)
