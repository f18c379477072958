-- Begun: which calls of a trace a schedule has begun.
use Rattle.std.specs.Prelude.{◌≡◌, ℕ, ◌≤◌, List, ◌++◌, length, map, Ok}
use Rattle.nv_mount.specs.Mounts.{MountState}
use Rattle.nv_table.specs.state.States.{PassState}
use Rattle.nv_runner.specs.Lists.{calls_made, made_calls}
use Rattle.nv_runner.specs.Rounds.{AreInLineOrder}
use Rattle.nv_runner.specs.Shifts.{calls_of_thread}
use Rattle.nv_runner.specs.Sorted.{HaveOwnLines}
use Rattle.nv_trace.specs.declared.token.Token.{Token}
use Rattle.nv_trace.specs.declared.trace_call.TracedCall.{TracedCall}
use Rattle.nv_schedule.specs.Scheduled.{AreCallsOf, HasFollowed}
use Rattle.nv_schedule.specs.Turns.{CallerState}
use Rattle.nv_schedule.specs.declared.scheduled.ScheduledCalls.{ScheduledCalls}

-- Of a thread's calls in a trace the first ones were begun, each once: those that are listed, in their order, and then the unanswered one, if there is one.
pub record AreFirstOfThread (calls listed unanswered : List TracedCall) (thread : ℕ) : Type 0 where
  pub left : List TracedCall
  pub first : calls_of_thread thread calls ≡ (calls_of_thread thread listed ++ calls_of_thread thread unanswered) ++ left
  pub at_most_one : length (calls_of_thread thread unanswered) ≤ 1

-- So it is of each thread; and no two of all these calls are of one line.
pub record AreBegun (calls listed unanswered : List TracedCall) : Type 0 where
  pub first : (thread : ℕ) → AreFirstOfThread calls listed unanswered thread
  pub own_lines : HaveOwnLines (listed ++ unanswered)

-- the calls that a schedule lists with their answers, and those that it lists without
abbrev pub listed_calls : ScheduledCalls → List TracedCall
listed_calls told = calls_made (made_calls told.answered.items)

abbrev pub unanswered_calls : ScheduledCalls → List TracedCall
unanswered_calls told = map (λ call. call.now) told.unanswered.items

-- Those of a trace whose lines rise are so.
abbrev pub SchedulesBegin : Type 0
SchedulesBegin =
    (mount : MountState) (tokens : List Token) (calls : List TracedCall) (batch : ℕ) (then_ : List CallerState) (zero : PassState) (told : ScheduledCalls)
    → HasFollowed mount tokens calls batch (Ok tt) then_ zero → AreCallsOf then_ told → AreInLineOrder calls → AreBegun calls (listed_calls told) (unanswered_calls told)
