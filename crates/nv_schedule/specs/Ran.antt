-- Ran: the callers of a schedule, behind its tokens.
use Rattle.std.specs.Prelude.{◌≡◌, ℕ, false, List, ◌∷◌, map, Result, Ok, Err}
use Rattle.nv_bench.specs.Benches.{BenchState}
use Rattle.nv_core.specs.steps.Events.{Event}
use Rattle.nv_mount.specs.Mounts.{MountState}
use Rattle.nv_table.specs.state.States.{PassState}
use Rattle.nv_trace.specs.declared.trace_call.TracedCall.{TracedCall}
use Rattle.nv_schedule.specs.Cuts.{IsCutBy, IsCutBySome}
use Rattle.nv_schedule.specs.Following.{Follows, MeetsFault, UsesUp}
use Rattle.nv_schedule.specs.Fresh.{AreFresh, works_of}
use Rattle.nv_schedule.specs.Orders.{InTurn}
use Rattle.nv_schedule.specs.Turns.{CallerState}
use Rattle.nv_schedule.specs.declared.schedule_error.ScheduleError.{ScheduleError}
use Rattle.nv_schedule.specs.declared.schedule_error.ScheduleError.TheVariants.{Fault, NoMemory, TurnsUsed}
use Rattle.nv_trace.specs.declared.token.Token.{Token}

-- Callers that had begun nothing followed a schedule: by the whole of it, or up to a token that used up its advances, or in whose last one a device call has failed before any cut.
abbrev pub RanAs : MountState → List Token → (first then_ : List CallerState) → List Event → Result (Unit {0}) ScheduleError → Type 0
RanAs mount tokens first then_ trail (Ok done) = Follows mount.fds false tokens first trail then_
RanAs mount tokens first then_ trail (Err TurnsUsed) = UsesUp mount.fds false tokens first trail then_
RanAs mount tokens first then_ trail (Err Fault) = MeetsFault mount.fds false tokens first trail then_
RanAs mount tokens first then_ trail (Err NoMemory) = Unit {0}

-- They were those of a trace's calls, and pass 0 was told a run in which their events stand in their order.
pub record HasRunOn (mount : MountState) (tokens : List Token) (calls : List TracedCall) (batch : ℕ) (then_ : List CallerState) (zero : PassState) (done : Result (Unit {0}) ScheduleError) : Type 0 where
  pub first : List CallerState
  pub fresh : AreFresh mount first
  pub works : map (λ caller. caller.work) first ≡ works_of calls batch
  pub trail : List Event
  pub ran : RanAs mount tokens first then_ trail done
  pub view : List Event
  pub stands : InTurn trail view
  pub before : List (List Event)
  pub told : zero.view.told ≡ view ∷ before

-- and the bench was armed at each cut that was reached; where memory is wanting nothing else is told
abbrev pub RunTells : MountState → List Token → List TracedCall → (batch : ℕ) → (then_ : List CallerState) → (zero : PassState) → (bench armed : BenchState) → Result (Unit {0}) ScheduleError → Type 0
RunTells mount tokens calls batch then_ zero bench armed (Ok done) = HasRunOn mount tokens calls batch then_ zero (Ok done) × IsCutBy tokens bench armed
RunTells mount tokens calls batch then_ zero bench armed (Err TurnsUsed) = (run : HasRunOn mount tokens calls batch then_ zero (Err TurnsUsed)) × IsCutBy run.ran.before bench armed
RunTells mount tokens calls batch then_ zero bench armed (Err Fault) = HasRunOn mount tokens calls batch then_ zero (Err Fault) × (armed ≡ bench)
RunTells mount tokens calls batch then_ zero bench armed (Err NoMemory) = IsCutBySome tokens bench armed
