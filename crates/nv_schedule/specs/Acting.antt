-- Acting: one advance of an actor, by the events of one step of its pass.
use Rattle.std.specs.Prelude.{◌≡◌, ◌⊎◌, ℕ, Bool, true, false, not, ◌&&◌, List, [], ◌∷◌, ◌++◌, length, Option, Some, None}
use Rattle.nv_plain.specs.Histories.{Answered}
use Rattle.nv_plain.specs.declared.call.FileCall.{FileCall}
use Rattle.nv_plain.specs.declared.call.Reply.{Reply}
use Rattle.nv_core.specs.state.Cleaner.{TakeCleaner}
use Rattle.nv_core.specs.state.Passes.{Control, Idle, plain_call}
use Rattle.nv_core.specs.steps.Events.{Event, own}
use Rattle.nv_core.specs.steps.Ops.{Op, ByCleaner}
use Rattle.nv_table.specs.state.Opened.{Opened}
use Rattle.nv_mount.specs.declared.fds.Fd.{Fd}
use Rattle.nv_mirror.specs.PassSteps.{PassStep, refusal_in}
use Rattle.nv_mirror.specs.declared.answers.Refusal.{Refusal}
use Rattle.nv_mirror.specs.declared.answers.Refusal.TheVariants.{RegionFault, StoreFault}
use Rattle.nv_calls.specs.fsync.SyncRuns.{file_of_fd}
use Rattle.nv_calls.specs.histories.Faults.{OpenWrite, open_in}
use Rattle.nv_trace.specs.declared.trace_call.TraceCall.{TraceCall}
use Rattle.nv_trace.specs.declared.trace_call.TraceCall.TheVariants.{Pwrite, Pwritev}
use Rattle.nv_trace.specs.declared.trace_call.TracedCall.{TracedCall}
use Rattle.nv_runner.specs.Calls.{call_on, fd_of}
use Rattle.nv_runner.specs.Refusals.{early_of_call}
use Rattle.nv_runner.specs.declared.answer.Answer.{Answer}
use Rattle.nv_runner.specs.declared.answer.Answer.TheVariants.{Placed, Refused, Open}
use Rattle.nv_schedule.specs.Actors.{Actor, Calls, Batches, Task, ThreadCalls, pass_at}
use Rattle.nv_schedule.specs.Flights.{flights_of}
use Rattle.nv_schedule.specs.StepsMade.{steps_in}
use Rattle.nv_schedule.specs.Tries.{begins_anew_by}
use Rattle.nv_schedule.specs.Turns.{events_of}

-- ---- what came of a call

-- The history as its pass has seen it ends with this call, at this place.
pub record IsPlacedLast (opened : Opened) (call : FileCall) (reply : Reply) (place : ℕ) (actor : Actor) : Type 0 where
  pub before : List Answered
  pub ends : (pass_at opened actor).seen ≡ before ++ record { caller = actor.number; call = call; reply = reply } ∷ []
  pub at : place ≡ length before

-- The last of its pass's writes in flight is what this call is made as, from this number on.
abbrev pub IsLastOpen : Opened → FileCall → (number : ℕ) → Actor → Type 0
IsLastOpen opened call number actor = (earlier : List OpenWrite) × (open_in (flights_of (pass_at opened actor)) ≡ record { call = plain_call call; first = number } ∷ earlier)

-- why the steps of its present try were refused, if they were, by what it is made as
abbrev pub refusal_now : Opened → FileCall → Actor → Option Refusal
refusal_now opened call actor = refusal_in opened.sizes (plain_call call) (steps_in actor.number actor.seen)

-- a write that a device fault ended is open
abbrev pub leaves_open : TraceCall → Refusal → Bool
leaves_open (Pwrite fd at bytes) RegionFault = true
leaves_open (Pwrite fd at bytes) StoreFault = true
leaves_open (Pwritev fd at parts) RegionFault = true
leaves_open (Pwritev fd at parts) StoreFault = true
leaves_open call refusal = false

abbrev pub IsRefusedAs : (is_open : Bool) → Opened → FileCall → Refusal → Answer → Actor → Type 0
IsRefusedAs false opened call refusal answer actor = answer ≡ Refused refusal
IsRefusedAs true opened call refusal answer actor = (number : ℕ) × (answer ≡ Open number) × IsLastOpen opened call number actor

-- what a call of a file is answered whose try is over, refused so or not
abbrev pub IsAnswerTo : Opened → TraceCall → FileCall → Option Refusal → Answer → Actor → Type 0
IsAnswerTo opened call of_file None answer actor = (place : ℕ) × (reply : Reply) × (answer ≡ Placed place reply) × IsPlacedLast opened of_file reply place actor
IsAnswerTo opened call of_file (Some refusal) answer actor = IsRefusedAs (leaves_open call refusal) opened of_file refusal answer actor

-- and it begins anew where a lock was found held, or a write's numbers were drawn by another one
abbrev pub is_anew : TraceCall → Option Refusal → Bool
is_anew call None = false
is_anew call (Some refusal) = begins_anew_by call refusal

-- ---- a thread

abbrev pub is_idle : Control → Bool
is_idle Idle = true
is_idle control = false

-- its present call goes on; or it was answered, and the next one hasn't begun
abbrev pub CallsGo : (answered : Bool) → TracedCall → (old new : ThreadCalls) → (Answers : Answer → Type 0) → Type 0
CallsGo false call old new Answers = (new.left ≡ old.left) × (new.begun ≡ true) × (new.made ≡ old.made)
CallsGo true call old new Answers =
    (answer : Answer) × (old.left ≡ call ∷ new.left) × (new.begun ≡ false) × (new.made ≡ old.made ++ record { call = call; answer = answer } ∷ []) × Answers answer

-- What its present call asks for bars it: no step is made, and it is answered so.
pub record IsBarredCall (opened : Opened) (fds : List Fd) (answered : Bool) (call : TracedCall) (events : List Event) (old new : ThreadCalls) (from to : Actor) : Type 0 where
  pub none : events ≡ []
  pub still : to.seen ≡ from.seen
  pub refusal : Refusal
  pub barred : early_of_call opened.sizes fds call.call ≡ Some refusal
  pub over : answered ≡ true
  pub goes : CallsGo true call old new (λ answer. answer ≡ Refused refusal)

-- the run goes on by events of others, and then by these of a pass
pub record GoesOnBy (number : ℕ) (events seen then_ : List Event) : Type 0 where
  pub others : List Event
  pub then_is : then_ ≡ (seen ++ others) ++ events
  pub quiet : own number others ≡ []

abbrev pub is_by_cleaner : Op → Bool
is_by_cleaner (ByCleaner op) = true
is_by_cleaner op = false

-- Nothing bars it: its pass makes one step, which begins this call of its descriptor's file where it begins any, and no batch. Where its pass is idle again it was answered, but where it begins anew.
pub record IsSteppedCall (opened : Opened) (fds : List Fd) (answered : Bool) (call : TracedCall) (events : List Event) (old new : ThreadCalls) (from to : Actor) : Type 0 where
  pub step : PassStep
  pub events_are : events ≡ events_of from.number step
  pub on : GoesOnBy from.number events from.seen to.seen
  pub unbarred : early_of_call opened.sizes fds call.call ≡ None
  pub file : ℕ
  pub file_is : file_of_fd fds (fd_of call.call) ≡ Some file
  pub begins : (begun : FileCall) → step.opens ≡ Some begun → begun ≡ call_on call.call file
  pub no_batch : is_by_cleaner step.op ≡ false
  pub answered_is : answered ≡ (is_idle (pass_at opened to).control && not (is_anew call.call (refusal_now opened (call_on call.call file) to)))
  pub goes : CallsGo answered call old new (λ answer. IsAnswerTo opened call.call (call_on call.call file) (refusal_now opened (call_on call.call file) to) answer to)

-- An advance of a thread is one of its present call.
pub record ThreadActs (opened : Opened) (fds : List Fd) (answered : Bool) (events : List Event) (old new : ThreadCalls) (from to : Actor) : Type 0 where
  pub call : TracedCall
  pub later : List TracedCall
  pub present : old.left ≡ call ∷ later
  pub how : IsBarredCall opened fds answered call events old new from to ⊎ IsSteppedCall opened fds answered call events old new from to

-- ---- the cleaner

-- a step of a batch: the first one takes CLEANER, for at most so many entries
abbrev pub IsOfBatch : (most : ℕ) → Op → Type 0
IsOfBatch most (ByCleaner (TakeCleaner bound)) = bound ≡ most
IsOfBatch most (ByCleaner op) = Unit {0}
IsOfBatch most op = ⊥

-- An advance of it is one step of a batch, which is answered where its pass is idle again.
pub record CleanerActs (opened : Opened) (answered : Bool) (events : List Event) (most : ℕ) (from to : Actor) : Type 0 where
  pub step : PassStep
  pub events_are : events ≡ events_of from.number step
  pub on : GoesOnBy from.number events from.seen to.seen
  pub begins : step.opens ≡ None
  pub of_batch : IsOfBatch most step.op
  pub answered_is : answered ≡ is_idle (pass_at opened to).control

-- ---- either

abbrev pub TaskActs : Opened → List Fd → (answered : Bool) → List Event → (old new : Task) → (from to : Actor) → Type 0
TaskActs opened fds answered events (Calls old) (Calls new) from to = ThreadActs opened fds answered events old new from to
TaskActs opened fds answered events (Batches old) (Batches new) from to = (new ≡ old) × CleanerActs opened answered events old from to
TaskActs opened fds answered events old new from to = ⊥

pub record Acts (opened : Opened) (fds : List Fd) (answered : Bool) (events : List Event) (from to : Actor) : Type 0 where
  pub number : to.number ≡ from.number
  pub task : TaskActs opened fds answered events from.task to.task from to
