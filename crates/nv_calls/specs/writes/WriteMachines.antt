-- Write machines: where a write of a descriptor stands that is made one step at a time.
use Rattle.std.specs.Prelude.{◌≡◌, ℕ, ◌+◌, ◌*◌, ◌≤◌, List, length, Option, Some, None, Result, Ok, Err}
use Rattle.std.specs.Borrow.{Bor}
use Rattle.std.specs.List.{concat}
use Rattle.nv_plain.specs.Pieces.{pages_touched}
use Rattle.nv_plain.specs.Modes.{can_write}
use Rattle.nv_plain.specs.declared.call.FileCall.{FileCall}
use Rattle.nv_plain.specs.declared.call.FileCall.TheVariants.{Write}
use Rattle.nv_core.specs.state.Words.{Sizes}
use Rattle.nv_table.specs.invariant.Idle.{IsIdle}
use Rattle.nv_table.specs.state.States.{PassState}
use Rattle.nv_mount.specs.declared.fds.Fd.{Fd}
use Rattle.nv_op.specs.declared.kinds.Kind.{Kind}
use Rattle.nv_mirror.specs.declared.answers.Done.{Done}
use Rattle.nv_mirror.specs.declared.answers.Refusal.{Refusal}
use Rattle.nv_mirror.specs.Answers.{refusal_in_answer}
use Rattle.nv_ring.specs.declared.write.RunningWrite.{RunningWrite}
use Rattle.nv_ring.specs.declared.write.RunningWrite.TheVariants.{Over}
use Rattle.nv_ring.specs.RunningWrites.{IsOpen, IsUnderWay, asked_in, write_measure}
use Rattle.nv_ring.specs.WriteSteps.{first_kind, part_fault, with_list, write_fault, write_kind, write_place}
use Rattle.nv_calls.specs.calls.Advances.{Standing}
use Rattle.nv_calls.specs.calls.Asks.{asks_write, asks_writev}
use Rattle.nv_calls.specs.calls.CallAnswers.{answer_of, done_at, done_of}
use Rattle.nv_calls.specs.calls.EarlyRefusals.{early_refusal}
use Rattle.nv_calls.specs.declared.progress.Progress.{Progress}
use Rattle.nv_calls.specs.declared.progress.Progress.TheVariants.{More, Ended}
use Rattle.nv_calls.specs.declared.writing.WriteControl.{WriteControl}
use Rattle.nv_calls.specs.declared.writing.WriteControl.TheVariants as writes
use Rattle.nv_calls.specs.declared.writing.WriteMachine.{WriteMachine}
use Rattle.nv_calls.specs.fsync.SyncRuns.{file_of_fd}
use Rattle.nv_calls.specs.writes.Writes.{IsWriteOverAs}

-- ---- what comes next, and what has come of it

-- what it asks for is refused before any step
abbrev pub early_of : Sizes → List Fd → WriteMachine → Option Refusal
early_of sizes fds m = early_refusal can_write sizes fds m.fd m.at m.len

-- the kind of its next step, where no device call before that fails; before the first one that of a write that isn't refused so
abbrev pub kind_at : (len : ℕ) → WriteControl → Kind
kind_at len writes.Begin = first_kind len
kind_at len (writes.Running write) = write_kind write

abbrev pub next_kind_of : WriteMachine → Kind
next_kind_of m = kind_at m.len m.control

-- its place, once it has one
abbrev pub place_at : WriteControl → Option ℕ
place_at writes.Begin = None
place_at (writes.Running write) = write_place write

abbrev pub place_so_far : WriteMachine → Option ℕ
place_so_far m = place_at m.control

-- and the answer that it tells then
abbrev pub placed_by : WriteMachine → Option Done
placed_by m = done_at m.len (place_so_far m)

-- the fault of a device call before one of its steps, once there was one
abbrev pub fault_at : WriteControl → Option Refusal
fault_at writes.Begin = None
fault_at (writes.Running write) = write_fault write

abbrev pub fault_so_far : WriteMachine → Option Refusal
fault_so_far m = fault_at m.control

abbrev pub standing : WriteMachine → Standing
standing m = record { kind = next_kind_of m; place = place_so_far m; fault = fault_so_far m }

-- ---- since a start

-- It isn't refused before its first step, and this is that write of its descriptor's file, of this list and asked so, which has made some steps.
pub record IsOfFile (asked : (file : ℕ) → FileCall) (fds : List Fd) (m : WriteMachine) (list : List ℕ) (write : RunningWrite) (start now : PassState) : Type 0 where
  pub early : early_of start.view.opened.sizes fds m ≡ None
  pub file : ℕ
  pub file_is : file_of_fd fds m.fd ≡ Some file
  pub asks : asked_in (asked file) write now ≡ asked file
  pub way : IsUnderWay (Write file m.at list) write start now

-- Its pass was idle at the start. It has made no step yet, or is under way with a list of its bytes put in.
abbrev pub StandsAt : (asked : (file : ℕ) → FileCall) → List Fd → WriteMachine → (list : List ℕ) → (start now : PassState) → WriteControl → Type 0
StandsAt asked fds m list start now writes.Begin = IsIdle start × (now ≡ start)
StandsAt asked fds m list start now (writes.Running write) = IsOpen write × (lent : Bor (List ℕ)) × IsOfFile asked fds m list (with_list lent write) start now

pub record IsWriteUnderWayAs (asked : (file : ℕ) → FileCall) (fds : List Fd) (m : WriteMachine) (list : List ℕ) (start now : PassState) : Type 0 where
  pub room : length list ≡ m.len
  pub stands : StandsAt asked fds m list start now m.control

-- It goes on from a start, or has told what a whole write tells: then its machine tells the same answer, and whether that is a device fault.
abbrev pub WriteGoesAs : (asked : (file : ℕ) → FileCall) → List Fd → (start : PassState) → WriteMachine → (list : List ℕ) → (now : PassState) → Progress → Type 0
WriteGoesAs asked fds start m list now More = IsWriteUnderWayAs asked fds m list start now
WriteGoesAs asked fds start m list now (Ended result) =
    (placed_by m ≡ done_of result) × (fault_so_far m ≡ part_fault (refusal_in_answer result)) × IsWriteOverAs asked fds m.fd m.at (length list) start now result

-- so a write of a list
abbrev pub IsWriteUnderWay : List Fd → WriteMachine → (list : List ℕ) → (start now : PassState) → Type 0
IsWriteUnderWay fds m list start now = IsWriteUnderWayAs (asks_write m.at list) fds m list start now

abbrev pub WriteGoes : List Fd → (start : PassState) → WriteMachine → (list : List ℕ) → (now : PassState) → Progress → Type 0
WriteGoes fds start m list now progress = WriteGoesAs (asks_write m.at list) fds start m list now progress

-- and of parts
abbrev pub IsWritevUnderWay : List Fd → WriteMachine → (parts : List (List ℕ)) → (start now : PassState) → Type 0
IsWritevUnderWay fds m parts start now = IsWriteUnderWayAs (asks_writev m.at parts) fds m (concat parts) start now

abbrev pub WritevGoes : List Fd → (start : PassState) → WriteMachine → (parts : List (List ℕ)) → (now : PassState) → Progress → Type 0
WritevGoes fds start m parts now progress = WriteGoesAs (asks_writev m.at parts) fds start m (concat parts) now progress

-- ---- an advance

-- it is the same write
pub record IsSameWrite (m next : WriteMachine) : Type 0 where
  pub fd : next.fd ≡ m.fd
  pub at : next.at ≡ m.at
  pub len : next.len ≡ m.len

-- ---- how many steps may still come

abbrev pub measure_at : Sizes → WriteMachine → WriteControl → ℕ
measure_at sizes m writes.Begin = 20 + 6 * pages_touched m.at m.len sizes.page
measure_at sizes m (writes.Running write) = write_measure write

abbrev pub measure : Sizes → WriteMachine → ℕ
measure sizes m = measure_at sizes m m.control

-- ---- its parts

-- what an advance came to behind which the write is so
abbrev pub progress_of : (len : ℕ) → RunningWrite → Progress
progress_of len (Over result) = Ended (answer_of len result)
progress_of len write = More

-- the machine with its list put in: it stands where it stood
pub record IsPutInAs (sizes : Sizes) (fds : List Fd) (m : WriteMachine) (list : List ℕ) (write : RunningWrite) : Type 0 where
  pub more : IsOpen write
  pub kind : write_kind write ≡ next_kind_of m
  pub place : write_place write ≡ place_so_far m
  pub fault : write_fault write ≡ fault_so_far m
  pub fewer : write_measure write ≤ measure sizes m
  pub way : (asked : (file : ℕ) → FileCall) (start now : PassState) → now.view.opened.sizes ≡ sizes → IsWriteUnderWayAs asked fds m list start now → IsOfFile asked fds m list write start now

-- unless it is refused before its first step
abbrev pub IsPutIn : Sizes → List Fd → WriteMachine → (list : List ℕ) → Result RunningWrite Refusal → Type 0
IsPutIn sizes fds m list (Ok write) = IsPutInAs sizes fds m list write
IsPutIn sizes fds m list (Err refusal) = (m.control ≡ writes.Begin) × (early_of sizes fds m ≡ Some refusal)
