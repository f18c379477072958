-- Turns: one advance of a caller.
use Rattle.std.specs.Prelude.{◌≡◌, ◌⊎◌, ℕ, Bool, true, false, List, [], ◌∷◌, ◌++◌, Option, Some, Result}
use Rattle.nv_core.specs.state.Words.{Sizes}
use Rattle.nv_core.specs.steps.Events.{Event}
use Rattle.nv_table.specs.state.States.{PassState}
use Rattle.nv_table.specs.steps.SeatSteps as table
use Rattle.nv_table.specs.steps.SeatSteps.{act_of}
use Rattle.nv_mount.specs.declared.fds.Fd.{Fd}
use Rattle.nv_op.specs.declared.kinds.Kind.{Kind}
use Rattle.nv_mirror.specs.PassSteps.{PassStep, HasTaken}
use Rattle.nv_clean.specs.Answers.{HasEnded}
use Rattle.nv_clean.specs.Cleaning.{CleanState}
use Rattle.nv_clean.specs.declared.batch.CleanRefusal.{CleanRefusal}
use Rattle.nv_clean.specs.declared.clean.Cleaned.{Cleaned}
use Rattle.nv_schedule.specs.Barred.{IsFirstAnsweredEarly}
use Rattle.nv_runner.specs.Lists.{MadeCall}
use Rattle.nv_schedule.specs.Callers.{BatchEnds, CallEnds, CleanerHasCome, IsAnsweredBy, IsAtBatch, IsAtCall, ThreadHasCome, ThreadState, kind_at_batch, next_of_calls}
use Rattle.nv_schedule.specs.Faulted.{batch_faulted, hand_faulted}
use Rattle.nv_schedule.specs.Faults.{some_fails}
use Rattle.nv_schedule.specs.declared.caller.Work.{Work}
use Rattle.nv_schedule.specs.declared.caller.Work.TheVariants.{Calls, Batches}
use Rattle.nv_schedule.specs.declared.turned.Turned.{Turned}

-- a thread or the cleaner, with its pass
pub record CallerState : Type 0 where
  pub pass : PassState
  pub work : Work

-- the kind of its next step; none where it has no call left
abbrev pub next_of_work : Sizes → Work → Option Kind
next_of_work sizes (Calls thread) = next_of_calls sizes thread.left thread.hand
next_of_work sizes (Batches cleaner) = Some (kind_at_batch cleaner.machine)

abbrev pub next_kind_of : CallerState → Option Kind
next_kind_of caller = next_of_work caller.pass.view.opened.sizes caller.work

-- so it has come to where it is since a start
abbrev pub HasCome : List Fd → Work → (start now : PassState) → Type 0
HasCome fds (Calls thread) start now = ThreadHasCome fds thread start now
HasCome fds (Batches cleaner) start now = CleanerHasCome cleaner start now

-- its present call, or batch, was answered by an advance, or not
abbrev pub WorkEnds : (answered : Bool) → (old new : Work) → Type 0
WorkEnds answered (Calls old) (Calls new) = CallEnds answered old new
WorkEnds answered (Batches old) (Batches new) = (new.most ≡ old.most) × BatchEnds answered new.machine
WorkEnds answered old new = ⊥

-- the events of a step: the device calls that lie before it, and the step
abbrev pub events_of : (number : ℕ) → PassStep → List Event
events_of number step = table.events number step.works (act_of step.opens step.op step.found)

-- These are the events of an advance: those of one step; or none, where this allows it.
abbrev pub MovesBy : (allowed : Type 0) → List Event → (old new : PassState) → Type 0
MovesBy allowed events old new = ((new ≡ old) × (events ≡ []) × allowed) ⊎ ((step : PassStep) × HasTaken step old new × (events ≡ events_of old.view.number step))

-- A batch goes on that was at hand since a start; or it is over, and so answered.
abbrev pub BatchCame : (answered : Bool) → (most : ℕ) → Option CleanState → (begun now : PassState) → Type 0
BatchCame false most machine begun now = IsAtBatch most machine begun now
BatchCame true most machine begun now = (result : Result Cleaned CleanRefusal) × HasEnded most begun now result

abbrev pub BatchTurns : (answered : Bool) → (old new : Work) → (pass now : PassState) → Type 0
BatchTurns answered (Batches old) (Batches new) pass now = (begun : PassState) → IsAtBatch old.most old.machine begun pass → BatchCame answered new.most new.machine begun now
BatchTurns answered old new pass now = Unit {0}

-- What its pass is at since the last of a thread's calls was answered goes on; or its present call was answered.
abbrev pub CallCame : List Fd → (answered : Bool) → (old new : ThreadState) → (last now : PassState) → Type 0
CallCame fds false old new last now = IsAtCall fds new.left new.hand last now
CallCame fds true old new last now = (m : MadeCall) × (old.left ≡ m.call ∷ new.left) × (new.made ≡ old.made ++ m ∷ []) × IsAnsweredBy fds m.call.call last now m.answer

abbrev pub CallTurns : List Fd → (answered : Bool) → (old new : Work) → (pass now : PassState) → Type 0
CallTurns fds answered (Calls old) (Calls new) pass now = (last : PassState) → IsAtCall fds old.left old.hand last pass → CallCame fds answered old new last now
CallTurns fds answered old new pass now = Unit {0}

-- What its present call asks for bars it, and it was answered. A batch is never barred.
abbrev pub IsBarredWork : Sizes → List Fd → (answered : Bool) → Work → Type 0
IsBarredWork sizes fds answered (Calls thread) = IsFirstAnsweredEarly sizes fds thread.left answered
IsBarredWork sizes fds answered (Batches cleaner) = ⊥

abbrev pub IsBarred : List Fd → (answered : Bool) → CallerState → Type 0
IsBarred fds answered caller = IsBarredWork caller.pass.view.opened.sizes fds answered caller.work

-- One advance of a caller, by these events, of which there are none only where its call is barred: what its pass is at goes on, from wherever it has come, and its call is answered or not.
pub record HasTurned (fds : List Fd) (answered : Bool) (events : List Event) (old new : CallerState) : Type 0 where
  pub moved : MovesBy (IsBarred fds answered old) events old.pass new.pass
  pub ends : WorkEnds answered old.work new.work
  pub call : CallTurns fds answered old.work new.work old.pass new.pass
  pub batch : BatchTurns answered old.work new.work old.pass new.pass
  pub come : (start : PassState) → HasCome fds old.work start old.pass → HasCome fds new.work start new.pass

-- a device call has failed in what a caller does at present
abbrev pub has_faulted : Work → Bool
has_faulted (Calls thread) = hand_faulted thread.hand
has_faulted (Batches cleaner) = batch_faulted cleaner.machine

-- So it tells: whether the call was answered; and, where no device call had failed in what its caller does at present, whether one has now, and that none has so far, if so.
pub record TurnTells (fds : List Fd) (turned : Turned) (events : List Event) (old new : CallerState) : Type 0 where
  pub turn : HasTurned fds turned.answered events old new
  pub failed : has_faulted old.work ≡ false → some_fails events ≡ turned.faulted
  pub none : turned.faulted ≡ false → has_faulted new.work ≡ false
