-- Sync machines: where an fsync stands that is made one step at a time.
use Rattle.std.specs.Prelude.{◌≡◌, ℕ, ◌<◌, ◌^◌, List, Option, Some, None, Result, Ok, Err}
use Rattle.nv_plain.specs.declared.call.FileCall.TheVariants.{Sync}
use Rattle.nv_core.specs.state.Words.{Sizes, STOP, ORDER}
use Rattle.nv_core.specs.steps.Ops.{Load}
use Rattle.nv_table.specs.invariant.Idle.{IsIdle, IsLater}
use Rattle.nv_table.specs.steps.StepContracts.{Postcondition}
use Rattle.nv_table.specs.state.Views.{PassView}
use Rattle.nv_table.specs.state.States.{PassState}
use Rattle.nv_mount.specs.declared.fds.Fd.{Fd}
use Rattle.nv_op.specs.declared.asked.Asked.TheVariants.{Sync as AsksSync}
use Rattle.nv_op.specs.declared.kinds.Kind.{Kind}
use Rattle.nv_op.specs.Kinds.{kind_of}
use Rattle.nv_mirror.specs.declared.answers.Done.{Done}
use Rattle.nv_mirror.specs.declared.answers.Refusal.{Refusal}
use Rattle.nv_mirror.specs.declared.answers.Refusal.TheVariants.{BadFd, Stopped, Spent}
use Rattle.nv_mirror.specs.declared.pageless.PagelessControl.{PagelessControl}
use Rattle.nv_mirror.specs.declared.pageless.PagelessControl.TheVariants.{Over}
use Rattle.nv_mirror.specs.declared.pageless.PagelessControl.TheVariants as controls
use Rattle.nv_mirror.specs.declared.pageless.PagelessMachine.{PagelessMachine}
use Rattle.nv_mirror.specs.Answers.{IsSyncPlaced, IsUnplaced}
use Rattle.nv_mirror.specs.Controls.{asked_at}
use Rattle.nv_mirror.specs.Pageless as pageless
use Rattle.nv_mirror.specs.Pageless.{pageless_measure, pageless_op, pageless_place_at}
use Rattle.nv_calls.specs.calls.Advances.{Standing}
use Rattle.nv_calls.specs.calls.CallAnswers.{answer_of, done_at, done_of}
use Rattle.nv_calls.specs.declared.progress.Progress.{Progress}
use Rattle.nv_calls.specs.declared.progress.Progress.TheVariants.{More, Ended}
use Rattle.nv_calls.specs.declared.syncing.SyncControl.{SyncControl}
use Rattle.nv_calls.specs.declared.syncing.SyncControl.TheVariants as syncs
use Rattle.nv_calls.specs.declared.syncing.SyncMachine.{SyncMachine}
use Rattle.nv_calls.specs.fsync.SyncRuns.{IsSyncRun, file_of_fd}

-- ---- what comes next, and what has come of it

-- where it stands: one that has made no step is at its first
abbrev pub at_step : SyncControl → PagelessControl
at_step syncs.Begin = controls.Begin
at_step (syncs.Running sync) = sync.control

abbrev pub next_kind_of : SyncMachine → Kind
next_kind_of m = kind_of (pageless_op (at_step m.control))

abbrev pub place_so_far : SyncMachine → Option ℕ
place_so_far m = pageless_place_at (at_step m.control)

abbrev pub placed_by : SyncMachine → Option Done
placed_by m = done_at 0 (place_so_far m)

-- it makes no device call
abbrev pub standing : SyncMachine → Standing
standing m = record { kind = next_kind_of m; place = place_so_far m; fault = None }

-- how many steps may still come
abbrev pub measure : SyncMachine → ℕ
measure m = pageless_measure (at_step m.control)

-- what it asks for is refused before any step
abbrev pub early_of_file : Option ℕ → Option Refusal
early_of_file None = Some BadFd
early_of_file (Some file) = None

abbrev pub early_of : List Fd → SyncMachine → Option Refusal
early_of fds m = early_of_file (file_of_fd fds m.fd)

-- ---- since a start

-- The load of STOP found 0, and the load of ORDER then a number that is not used up.
pub record HasLoaded (file : ℕ) (start now : PassState) : Type 0 where
  pub begun : PassState
  pub found : ℕ
  pub stop : Postcondition start (Some (Sync file)) (Load STOP) 0 begun
  pub order : Postcondition begun None (Load ORDER) found now
  pub low : found < 2 ^ 60

-- the steps that its pass has made since the start
abbrev pub SyncSteps : (file : ℕ) → PagelessControl → (start now : PassState) → Type 0
SyncSteps file controls.Begin start now = now ≡ start
SyncSteps file controls.LoadOrder start now = Postcondition start (Some (Sync file)) (Load STOP) 0 now
SyncSteps file controls.TakePlace start now = HasLoaded file start now
SyncSteps file (Over result) start now = IsSyncRun (Some file) start now (answer_of 0 result)

-- The sync of a file has made these steps, or is over.
pub record IsRunning (file : ℕ) (sync : PagelessMachine) (start now : PassState) : Type 0 where
  pub asked : sync.asked ≡ AsksSync file
  pub asks : asked_at (Sync file) (pageless.has_begun sync.control) now ≡ Sync file
  pub way : pageless.IsUnderWay sync start now
  pub steps : SyncSteps file sync.control start now

-- so the sync of a descriptor's file
pub record IsOfFile (fds : List Fd) (fd : ℕ) (sync : PagelessMachine) (start now : PassState) : Type 0 where
  pub file : ℕ
  pub file_is : file_of_fd fds fd ≡ Some file
  pub running : IsRunning file sync start now

-- Its pass was idle at the start. It has made no step yet, or is under way.
abbrev pub StandsAt : List Fd → (fd : ℕ) → (start now : PassState) → SyncControl → Type 0
StandsAt fds fd start now syncs.Begin = IsIdle start × (now ≡ start)
StandsAt fds fd start now (syncs.Running sync) = pageless.IsOpen sync.control × IsOfFile fds fd sync start now

abbrev pub IsSyncUnderWay : List Fd → SyncMachine → (start now : PassState) → Type 0
IsSyncUnderWay fds m start now = StandsAt fds m.fd start now m.control

-- a sync has its place, or the history is as the pass saw it
abbrev pub SyncTells : Option ℕ → (old new : PassView) → Result Done Refusal → Type 0
SyncTells file old new (Ok done) = IsSyncPlaced file old new done.place × (done.len ≡ 0)
SyncTells file old new (Err refusal) = IsUnplaced old new

-- The call is over, and its pass idle again; all that is told of an fsync is so of the pass from the start.
pub record IsSyncEnded (file : Option ℕ) (start new : PassState) (result : Result Done Refusal) : Type 0 where
  pub idle : IsIdle new
  pub later : IsLater start new
  pub spare : new.spare ≡ start.spare
  pub told : SyncTells file start.view new.view result
  pub sync_run : IsSyncRun file start new result

-- It goes on from a start, or has told what a whole sync tells: then its machine tells the same answer.
abbrev pub SyncGoes : List Fd → (start : PassState) → SyncMachine → (new : PassState) → Progress → Type 0
SyncGoes fds start m new More = IsSyncUnderWay fds m start new
SyncGoes fds start m new (Ended result) = (placed_by m ≡ done_of result) × IsSyncEnded (file_of_fd fds m.fd) start new result

-- ---- an advance

-- It makes one step, or none where there is no descriptor: it goes on to the next control state, or ends with an answer of its own one.
abbrev pub SyncFollows : (old new : PagelessControl) → Progress → Type 0
SyncFollows controls.Begin controls.LoadOrder More = Unit {0}
SyncFollows controls.LoadOrder controls.TakePlace More = Unit {0}
SyncFollows controls.Begin new (Ended (Err BadFd)) = Unit {0}
SyncFollows controls.Begin new (Ended (Err Stopped)) = Unit {0}
SyncFollows controls.LoadOrder new (Ended (Err (Spent found))) = Unit {0}
SyncFollows controls.TakePlace new (Ended (Ok done)) = Unit {0}
SyncFollows old new progress = ⊥

-- what an advance came to behind which the sync is so
abbrev pub progress_at : PagelessControl → Progress
progress_at (Over result) = Ended (answer_of 0 result)
progress_at control = More

-- its machine, which stands where it stood; or there is no descriptor
pub record IsBegunAs (sizes : Sizes) (fds : List Fd) (m : SyncMachine) (sync : PagelessMachine) : Type 0 where
  pub stands : sync.control ≡ at_step m.control
  pub more : pageless.IsOpen sync.control
  pub way : (start now : PassState) → now.view.opened.sizes ≡ sizes → IsSyncUnderWay fds m start now → IsOfFile fds m.fd sync start now

abbrev pub IsBegun : Sizes → List Fd → SyncMachine → Result PagelessMachine Refusal → Type 0
IsBegun sizes fds m (Ok sync) = IsBegunAs sizes fds m sync
IsBegun sizes fds m (Err refusal) = (m.control ≡ syncs.Begin) × (refusal ≡ BadFd) × (file_of_fd fds m.fd ≡ None)
