-- Core runs: a schedule as a run of the core, cut by its tokens.
use Rattle.std.specs.Prelude.{◌≡◌, ℕ, Bool, true, false, List, [], ◌∷◌, ◌++◌, map, Some, Result, Ok, Err, IsPermutation}
use Rattle.std.specs.List.{flat_map}
use Rattle.nv_plain.specs.Histories.{Answered}
use Rattle.nv_bench.specs.Benches.{BenchState}
use Rattle.nv_core.specs.invariant.OneHistory.{IsPrefix, calls_by}
use Rattle.nv_core.specs.steps.Events.{Event}
use Rattle.nv_core.specs.steps.Opening.{IsMount}
use Rattle.nv_table.specs.state.Opened.{IsRunOf, Opened, mount_of, state_of}
use Rattle.nv_table.specs.state.States.{PassState}
use Rattle.nv_table.specs.state.Views.{Past, PassView, SeesAll}
use Rattle.nv_mount.specs.Mounts.{MountState}
use Rattle.nv_mount.specs.declared.fds.Fd.{Fd}
use Rattle.nv_calls.specs.fsync.SyncRuns.{file_of_fd}
use Rattle.nv_calls.specs.histories.Faults.{open_in}
use Rattle.nv_trace.specs.declared.token.Token.{Token}
use Rattle.nv_trace.specs.declared.trace_call.TracedCall.{TracedCall}
use Rattle.nv_runner.specs.Calls.{call_on, fd_of}
use Rattle.nv_runner.specs.Lists.{MadeCall, made_calls, placed}
use Rattle.nv_runner.specs.OpenRuns.{open_of}
use Rattle.nv_runner.specs.Sorted.{opened_calls}
use Rattle.nv_runner.specs.declared.answer.Answer.{Answer}
use Rattle.nv_runner.specs.declared.answer.Answer.TheVariants.{Placed, Refused, Open}
use Rattle.nv_schedule.specs.Acting.{IsLastOpen, IsPlacedLast}
use Rattle.nv_schedule.specs.Actors.{Actor, AreUnbegun, Calls, Batches, Task, pass_at, tasks_of}
use Rattle.nv_schedule.specs.Cuts.{IsCutBy}
use Rattle.nv_schedule.specs.Flights.{flights_of}
use Rattle.nv_schedule.specs.Orders.{deeds}
use Rattle.nv_schedule.specs.Played.{Plays, PlaysUp}
use Rattle.nv_schedule.specs.Scheduled.{HasScheduled}
use Rattle.nv_schedule.specs.declared.schedule_error.ScheduleError.{ScheduleError}
use Rattle.nv_schedule.specs.declared.schedule_error.ScheduleError.TheVariants.{Fault, NoMemory, TurnsUsed}
use Rattle.nv_schedule.specs.declared.scheduled.ScheduledCalls.{ScheduledCalls}

-- ---- the run

-- Each actor's pass was taken in with all its events, and no other pass.
abbrev pub AreTakenIn : (run : List Event) → List Actor → List Past → Type 0
AreTakenIn run [] [] = Unit {0}
AreTakenIn run (actor ∷ later) (past ∷ before) = (past.number ≡ actor.number) × IsPrefix actor.seen past.run × SeesAll past.number past.run run × AreTakenIn run later before
AreTakenIn run actors pasts = ⊥

-- What pass 0 saw last is a run of the core from the opening of a mount on. Its deeds, all but how passes are made and taken in, are those of a trace's threads and of a cleaner, who have played so.
pub record IsRunOfActors (opened : Opened) (calls : List TracedCall) (batch : ℕ) (HavePlayed : (first : List Actor) → (trail : List Event) → Type 0) (then_ : List Actor) (last : PassView) : Type 0 where
  pub mount : IsMount (mount_of opened)
  pub same : last.opened ≡ opened
  pub zero : last.number ≡ 0
  pub is_run : IsRunOf opened last.run
  pub first : List Actor
  pub unbegun : AreUnbegun first
  pub tasks : map (λ actor. actor.task) first ≡ tasks_of calls batch
  pub trail : List Event
  pub played : HavePlayed first trail
  pub only : deeds last.run ≡ trail
  pub taken : AreTakenIn last.run then_ last.ended

-- it is that of a whole schedule
abbrev pub IsRunBy : Opened → List Fd → List Token → (calls : List TracedCall) → (batch : ℕ) → (then_ : List Actor) → (last : PassView) → Type 0
IsRunBy opened fds tokens calls batch then_ last = IsRunOfActors opened calls batch (λ first trail. Plays opened fds false tokens first trail then_) then_ last

-- or up to a token that used up its advances
abbrev pub IsRunUpTo : Opened → List Fd → List Token → (calls : List TracedCall) → (batch : ℕ) → (then_ : List Actor) → (last : PassView) → Type 0
IsRunUpTo opened fds tokens calls batch then_ last = IsRunOfActors opened calls batch (λ first trail. PlaysUp opened fds tokens first trail then_) then_ last

-- ---- the calls

-- A call that stands in mid-call is told as placed, where it has its place, or as open.
abbrev pub IsToldAs : Opened → List Fd → TracedCall → Answer → Actor → Type 0
IsToldAs opened fds call (Placed place reply) actor = (file : ℕ) × (file_of_fd fds (fd_of call.call) ≡ Some file) × IsPlacedLast opened (call_on call.call file) reply place actor
IsToldAs opened fds call (Open number) actor = (file : ℕ) × (file_of_fd fds (fd_of call.call) ≡ Some file) × IsLastOpen opened (call_on call.call file) number actor
IsToldAs opened fds call (Refused refusal) actor = ⊥

-- so the present one of a thread is listed, where it has begun, or without an answer
abbrev pub IsPresent : Opened → List Fd → (begun : Bool) → (left : List TracedCall) → (listed : List MadeCall) → (unanswered : List TracedCall) → Actor → Type 0
IsPresent opened fds true (call ∷ later) [] unanswered actor = unanswered ≡ call ∷ []
IsPresent opened fds true (call ∷ later) (m ∷ more) unanswered actor = (m.call ≡ call) × (more ≡ []) × (unanswered ≡ []) × IsToldAs opened fds call m.answer actor
IsPresent opened fds begun left listed unanswered actor = (listed ≡ []) × (unanswered ≡ [])

abbrev pub IsListed : Opened → List Fd → Task → (listed : List MadeCall) → (unanswered : List TracedCall) → Actor → Type 0
IsListed opened fds (Calls calls) listed unanswered actor = (more : List MadeCall) × (listed ≡ calls.made ++ more) × IsPresent opened fds calls.begun calls.left more unanswered actor
IsListed opened fds (Batches most) listed unanswered actor = (listed ≡ []) × (unanswered ≡ [])

-- The calls of an actor are those that were answered, and its present one, which is listed or has no answer. The history has of its pass those that are listed as placed, in their order, and no other; and its pass's writes in flight are those that
-- are listed as open, each once.
pub record IsListedOf (opened : Opened) (fds : List Fd) (history : List Answered) (actor : Actor) (listed : List MadeCall) (unanswered : List TracedCall) : Type 0 where
  pub calls : IsListed opened fds actor.task listed unanswered actor
  pub placed_are : calls_by actor.number history ≡ placed fds actor.number listed
  pub open_are : IsPermutation (flat_map (open_of fds) (opened_calls listed)) (open_in (flights_of (pass_at opened actor)))

-- those of all, the last one's first
abbrev pub AreListed : Opened → List Fd → (history : List Answered) → List Actor → (listed : List MadeCall) → (unanswered : List TracedCall) → Type 0
AreListed opened fds history [] listed unanswered = (listed ≡ []) × (unanswered ≡ [])
AreListed opened fds history (actor ∷ later) listed unanswered =
    (others : List MadeCall) × (own : List MadeCall) × (without : List TracedCall) × (too : List TracedCall) × (listed ≡ others ++ own) × (unanswered ≡ without ++ too)
    × IsListedOf opened fds history actor own too × AreListed opened fds history later others without

-- ---- a law

-- What a schedule over a mount came to, by its run alone. The bench was armed at each cut that was reached.
abbrev pub HasRunInCore : Opened → List Fd → List Token → (calls : List TracedCall) → (batch : ℕ) → (last : PassView) → (bench armed : BenchState) → Result ScheduledCalls ScheduleError → Type 0
HasRunInCore opened fds tokens calls batch last bench armed (Ok told) =
    (then_ : List Actor) × IsRunBy opened fds tokens calls batch then_ last
    × AreListed opened fds (state_of opened last.run).history then_ (made_calls told.answered.items) (map (λ call. call.now) told.unanswered.items) × IsCutBy tokens bench armed
HasRunInCore opened fds tokens calls batch last bench armed (Err TurnsUsed) =
    (then_ : List Actor) × (run : IsRunUpTo opened fds tokens calls batch then_ last) × IsCutBy run.played.before bench armed
HasRunInCore opened fds tokens calls batch last bench armed (Err Fault) = Unit {0}
HasRunInCore opened fds tokens calls batch last bench armed (Err NoMemory) = Unit {0}

-- So each schedule that has come to an end or used up a token's advances has run in the core.
abbrev pub SchedulesRunInCore : Type 0
SchedulesRunInCore =
    (mount : MountState) (tokens : List Token) (calls : List TracedCall) (batch : ℕ) (start zero : PassState) (bench armed : BenchState) (outcome : Result ScheduledCalls ScheduleError)
    → HasScheduled mount tokens calls batch start zero bench armed outcome → HasRunInCore mount.board.opened mount.fds tokens calls batch zero.view bench armed outcome
