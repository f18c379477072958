-- Workers: the pass of a thread in a round, what its calls work in, and the calls that it made.
use Rattle.std.specs.Prelude.{◌≡◌, ◌≢◌, ◌⊎◌, ℕ, ◌+◌, Bool, true, List, [], ◌∷◌, ◌++◌, map, Option, Some, None}
use Rattle.std.specs.List.{range_with_len}
use Rattle.nv_core.specs.state.Passes.{IsOneOf}
use Rattle.nv_core.specs.steps.Events.{own}
use Rattle.nv_core.specs.invariant.OneHistory.{IsPrefix}
use Rattle.nv_table.specs.invariant.Idle.{IsIdle, IsLater}
use Rattle.nv_table.specs.state.Opened.{Opened}
use Rattle.nv_table.specs.state.States.{PassState, IsOf}
use Rattle.nv_table.specs.state.Views.{Past, made_of, pass_of, past_pass}
use Rattle.nv_table.specs.state.Workspaces.{IsWorkspace, WorkspaceState}
use Rattle.nv_mount.specs.Mounts.{MountState}
use Rattle.nv_mirror.specs.Answers.{IsUnplaced}
use Rattle.nv_calls.specs.histories.Faults.{open_writes}
use Rattle.nv_trace.specs.declared.trace_call.TracedCall.{TracedCall}
use Rattle.nv_runner.specs.Lists.{AreMade, FirstWereMade, MadeCall, calls_made}
use Rattle.nv_runner.specs.OpenWrites.{KeepsFaults}
use Rattle.nv_runner.specs.Runs.{GoesOn, OnlyMakesPasses}
use Rattle.nv_runner.specs.Shifts.{calls_of_thread}
use Rattle.nv_runner.specs.Tries.{HasRunBatches}

-- whose it is, its pass, what its calls work in, the calls that it made, those that it has left, and whether it has done its part
pub record WorkerState (L B : Type 0) : Type 0 where
  pub thread : ℕ
  pub pass : PassState
  pub workspace : WorkspaceState L B
  pub made : List MadeCall
  pub left : List TracedCall
  pub done : Bool

-- It is between two calls, and a pass beside pass 0.
pub record IsReady {L B : Type 0} (mount : MountState) (worker : WorkerState L B) : Type 0 where
  pub board : IsOf mount.board worker.pass
  pub other : worker.pass.view.number ≢ 0
  pub idle : IsIdle worker.pass
  pub workspace : IsWorkspace mount.board.opened.sizes worker.workspace
  pub bare : worker.workspace.parts.items ≡ []

-- the calls that it has left are its thread's among these
abbrev pub HasShare : {L B : Type 0} → List TracedCall → WorkerState L B → Type 0
HasShare calls worker = worker.left ≡ calls_of_thread worker.thread calls

-- It made some first ones of the calls that it had left, all that it has made, and is between two calls again.
pub record HasWorked {L B : Type 0} (mount : MountState) (batch : Option ℕ) (old new : WorkerState L B) : Type 0 where
  pub thread : new.thread ≡ old.thread
  pub ready : IsReady mount new
  pub later : IsLater old.pass new.pass
  pub some : FirstWereMade mount.fds batch old.left new.made old.pass new.pass

-- all calls of its thread among these were made
abbrev pub HasMadeAll : {L B : Type 0} → List TracedCall → WorkerState L B → Type 0
HasMadeAll calls worker = calls_made worker.made ≡ calls_of_thread worker.thread calls

-- It ran batches of the cleaner, where any may be run, and did nothing else: it placed no call and drew nothing, and is between two calls again.
pub record HasCleaned {L B : Type 0} (mount : MountState) (batch : Option ℕ) (old new : WorkerState L B) : Type 0 where
  pub thread : new.thread ≡ old.thread
  pub ready : IsReady mount new
  pub later : IsLater old.pass new.pass
  pub unplaced : IsUnplaced old.pass.view new.pass.view
  pub batches : HasRunBatches batch old.pass new.pass
  pub on : GoesOn batch 0 old.pass new.pass
  pub keeps : KeepsFaults old.pass new.pass
  pub made : new.made ≡ old.made

-- A pass that pass 0 made has called nothing, no event of it came before, no fault has ended a write of it, and it begins with all that those have seen that pass 0 had taken in, in a run behind theirs.
pub record IsNewcomer (opened : Opened) (ended : List Past) (start : PassState) : Type 0 where
  pub mount : start.view.opened ≡ opened
  pub other : start.view.number ≢ 0
  pub fresh : (pass_of start.view).mine ≡ []
  pub unborn : own start.view.number start.view.run ≡ []
  pub unfailed : open_writes start ≡ []
  pub seen : (past : Past) → IsOneOf ended past → IsPrefix (past_pass opened past).seen (pass_of start.view).seen
  pub behind : (past : Past) → IsOneOf ended past → IsPrefix past.run start.view.run

-- Pass 0, between two calls.
pub record IsZero (mount : MountState) (zero : PassState) : Type 0 where
  pub board : IsOf mount.board zero
  pub number : zero.view.number ≡ 0
  pub idle : IsIdle zero

-- It only made passes and took some in meanwhile: so it placed nothing, drew nothing and made no cleaner's step, no fault ended a write of it, and the parts that have no slot are with it.
pub record IsZeroStill (old new : PassState) : Type 0 where
  pub number : new.view.number ≡ old.view.number
  pub makes : OnlyMakesPasses old new
  pub on : (worker : Option ℕ) → GoesOn worker 0 old new
  pub opens : open_writes new ≡ open_writes old
  pub unplaced : IsUnplaced old.view new.view
  pub spare : new.spare ≡ old.spare

-- A worker whose pass is just made.
pub record IsNewWorker {L B : Type 0} (mount : MountState) (ended : List Past) (worker : WorkerState L B) : Type 0 where
  pub ready : IsReady mount worker
  pub newcomer : IsNewcomer mount.board.opened ended worker.pass
  pub none : worker.made ≡ []

-- What a worker did since pass 0 made its pass: it made some first ones of its thread's calls among these, and nothing behind them. One that made none, as the cleaner, may have run batches, and did nothing else.
pub record HasServed {L B : Type 0} (mount : MountState) (batch : Option ℕ) (ended : List Past) (calls : List TracedCall) (worker : WorkerState L B) : Type 0 where
  pub ready : IsReady mount worker
  pub start : PassState
  pub newcomer : IsNewcomer mount.board.opened ended start
  pub left : List TracedCall
  pub some : calls_made worker.made ++ left ≡ calls_of_thread worker.thread calls
  pub last : PassState
  pub each : AreMade mount.fds batch worker.made start last
  pub behind : (worker.made ≡ []) ⊎ (worker.pass ≡ last)
  pub batches : HasRunBatches batch last worker.pass
  pub quiet : IsUnplaced last.view worker.pass.view
  pub on : GoesOn batch 0 last worker.pass
  pub keeps : KeepsFaults last worker.pass
  pub number : worker.pass.view.number ≡ start.view.number

-- Pass 0 has made one more worker, of this thread, with these calls left.
pub record IsHired {L B : Type 0} (mount : MountState) (number : ℕ) (calls : List TracedCall) (old new : PassState) (before then_ : List (WorkerState L B)) : Type 0 where
  pub worker : WorkerState L B
  pub more : then_ ≡ before ++ worker ∷ []
  pub is_new : IsNewWorker mount old.view.ended worker
  pub thread : worker.thread ≡ number
  pub left : worker.left ≡ calls
  pub made : made_of new.view ≡ made_of old.view + 1

-- the threads of some workers
abbrev pub threads_of : {L B : Type 0} → List (WorkerState L B) → List ℕ
threads_of workers = map (λ worker. worker.thread) workers

-- the number of the cleaner, behind those of all threads
abbrev pub cleaner_thread : ℕ
cleaner_thread = 8

-- the threads of a round's workers: the cleaner's number first, where there is one
abbrev pub crew_of : (threads : ℕ) → (batch : Option ℕ) → List ℕ
crew_of threads None = range_with_len 0 threads
crew_of threads (Some batch) = cleaner_thread ∷ range_with_len 0 threads

-- It has done its part of a round: served since its pass was made, of whatever calls it had a share, and made all of that, where it says so.
pub record HasDonePart {L B : Type 0} (mount : MountState) (batch : Option ℕ) (old new : WorkerState L B) : Type 0 where
  pub thread : new.thread ≡ old.thread
  pub ready : IsReady mount new
  pub served : (ended : List Past) (calls : List TracedCall) → IsNewWorker mount ended old → HasShare calls old → HasServed mount batch ended calls new
  pub all : (calls : List TracedCall) → HasShare calls old → new.done ≡ true → HasMadeAll calls new
