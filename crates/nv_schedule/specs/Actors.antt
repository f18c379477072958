-- Actors: the callers of a schedule as a run of the core has them, each by its pass.
use Rattle.std.specs.Prelude.{◌≡◌, ℕ, ◌+◌, ◌<◌, Bool, false, List, [], ◌∷◌, ◌++◌, length, map, slice_index_or, Option, Some, None}
use Rattle.std.specs.List.{range_with_len}
use Rattle.nv_core.specs.state.Core.{Core}
use Rattle.nv_core.specs.state.Passes.{Pass}
use Rattle.nv_core.specs.steps.Events.{Event, own}
use Rattle.nv_table.specs.state.Opened.{Opened, state_of}
use Rattle.nv_op.specs.declared.kinds.Kind.{Kind}
use Rattle.nv_op.specs.declared.kinds.Kind.TheVariants.{Take}
use Rattle.nv_trace.specs.declared.trace_call.TracedCall.{TracedCall}
use Rattle.nv_runner.specs.Lists.{MadeCall}
use Rattle.nv_runner.specs.Shifts.{calls_of_thread}
use Rattle.nv_schedule.specs.Hands.{kind_at_first}
use Rattle.nv_schedule.specs.NextKinds.{core_kind}

-- the calls that a thread has left, its present one first; whether that has begun, by an advance; and what the others were answered
pub record ThreadCalls : Type 0 where
  pub left : List TracedCall
  pub begun : Bool
  pub made : List MadeCall

-- what an actor does: a thread's calls, or batches of at most so many entries
pub data Task : Type 0 where
  Calls : ThreadCalls → Task
  Batches : (most : ℕ) → Task

-- the number of its pass, the run up to the last event of that, and what it does
pub record Actor : Type 0 where
  pub number : ℕ
  pub seen : List Event
  pub task : Task

-- the core there, and its pass
abbrev pub core_at : Opened → Actor → Core
core_at opened actor = state_of opened actor.seen

abbrev pub pass_at : Opened → Actor → Pass
pass_at opened actor = (core_at opened actor).passes actor.number

-- ---- its next step

-- the kind of the core's next step of its pass, where each device call before it ends well, and the first one of what it does, where that is idle; none where it has no call left
abbrev pub kind_at : Opened → Actor → (first : Kind) → Kind
kind_at opened actor first = core_kind opened.sizes (core_at opened actor).values (pass_at opened actor) first

abbrev pub next_of_left : Opened → Actor → List TracedCall → Option Kind
next_of_left opened actor [] = None
next_of_left opened actor (call ∷ later) = Some (kind_at opened actor (kind_at_first call.call))

abbrev pub next_in : Opened → Actor → Task → Option Kind
next_in opened actor (Calls calls) = next_of_left opened actor calls.left
next_in opened actor (Batches most) = Some (kind_at opened actor Take)

-- ---- those of a schedule

-- a thread of each number below 8, which has all its calls left, and the cleaner behind them
abbrev pub tasks_of : (calls : List TracedCall) → (batch : ℕ) → List Task
tasks_of calls batch = map (λ number. Calls (record { left = calls_of_thread number calls; begun = false; made = [] })) (range_with_len 0 8) ++ Batches batch ∷ []

-- each by the pass behind as many as its place, which has no event yet
abbrev pub AreUnbegun : List Actor → Type 0
AreUnbegun actors =
    (i : ℕ) (d : Actor) → i < length actors → ((slice_index_or actors i d).number ≡ i + 1) × (own (slice_index_or actors i d).number (slice_index_or actors i d).seen ≡ [])
