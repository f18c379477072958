-- Faithful schedules: when a report of a schedule is right.
use Rattle.std.specs.Prelude.{◌≡◌, ℕ, ◌^◌, ◌<◌, ◌≤◌, List, ◌++◌, length, map, Ok, IsPermutation}
use Rattle.std.specs.List.Sorted.{IsNonDecreasingBy, IsStrictlyIncreasing}
use Rattle.nv_core.specs.state.Values.{Value}
use Rattle.nv_core.specs.steps.Opening.{IsMount}
use Rattle.nv_pmem.specs.Steps.{PartHistory}
use Rattle.nv_store.specs.Steps.{StoreHistory}
use Rattle.nv_table.specs.state.Opened.{mount_of}
use Rattle.nv_table.specs.state.States.{PassState}
use Rattle.nv_mount.specs.Mounts.{MountState}
use Rattle.nv_mount.specs.RisenCounts.{SawStop}
use Rattle.nv_runner.specs.EndedRuns.{IsClosedBy}
use Rattle.nv_runner.specs.Faithful.{Basis, IsFaithfulTo, files_shown, named, open_calls_of}
use Rattle.nv_runner.specs.FaithfulRuns.{IsMountOf, shown_refusals}
use Rattle.nv_runner.specs.Lists.{made_calls}
use Rattle.nv_runner.specs.Reports.{Report}
use Rattle.nv_runner.specs.Shifts.{calls_of_thread}
use Rattle.nv_runner.specs.Sorted.{AreSortedOut, opened_call, placed_call, refused_call}
use Rattle.nv_runner.specs.declared.sorted.SortedCalls.{SortedCalls}
use Rattle.nv_trace.specs.Shape.{IsWellFormed}
use Rattle.nv_trace.specs.Traced.{Traced, lines_in}
use Rattle.nv_trace.specs.declared.trace_call.TracedCall.{TracedCall}
use Rattle.nv_schedule.specs.Begun.{unanswered_calls}
use Rattle.nv_schedule.specs.Scheduled.{AreCallsOf, HasFollowed}
use Rattle.nv_schedule.specs.SortedOut.{AreOfOneRound}
use Rattle.nv_schedule.specs.Turns.{CallerState}
use Rattle.nv_schedule.specs.declared.scheduled.ScheduledCalls.{ScheduledCalls}

-- ---- reports

-- Of each thread some calls are the first ones that it has in a trace, each once.
pub record BeginThreads (calls some : List TracedCall) : Type 0 where
  pub begun : List TracedCall
  pub each_once : IsPermutation some begun
  pub left : (thread : ℕ) → List TracedCall
  pub first : (thread : ℕ) → calls_of_thread thread calls ≡ calls_of_thread thread begun ++ left thread

-- A report is faithful to a trace of whose threads some calls were made from this basis, each thread's from its first one on, with a cleaner beside them, which retired what it could, until power went off. Any call may be left open then.
abbrev pub IsFaithfulSchedule : (failed : Type 0) → Basis → Traced → Report → Type 0
IsFaithfulSchedule failed basis trace report =
    IsFaithfulTo failed (BeginThreads trace.calls) (λ tail. basis.next ≤ tail) (λ call. Unit {0}) (λ drew. Unit {0}) basis trace report

-- A report shows the sorted calls of a schedule: those that have a place; those that were refused; the open ones and those that aren't answered, by their lines, whatever became of them; and the files after the
-- history and then the kept ones.
pub record ShowsSchedule (basis : Basis) (trace : Traced) (sorted : SortedCalls) (unanswered : List TracedCall) (report : Report) : Type 0 where
  pub history : report.history ≡ map placed_call sorted.placed.items
  pub refused : report.refused ≡ shown_refusals (map refused_call sorted.refused.items)
  pub open_calls : IsPermutation (map (λ o. o.call) (map opened_call sorted.open_calls.items) ++ unanswered) (open_calls_of report)
  pub open_by_line : IsNonDecreasingBy (λ call. call.line) (open_calls_of report)
  pub files : report.files ≡ named basis.names (files_shown basis trace report)

-- A report that shows the sorted calls of a schedule of a trace without rounds, over a new mount of its basis that was closed then, is faithful. Devices have failed where a pass has seen STOP set.
abbrev pub SchedulesAreFaithful : Type 0
SchedulesAreFaithful =
    (basis : Basis) (trace : Traced) (mount : MountState) (batch : ℕ) (then_ : List CallerState) (zero : PassState) (told : ScheduledCalls) (sorted : SortedCalls) (part_values store_values : List Value)
    (parts : List PartHistory) (stores : List StoreHistory) (faults placed tail : ℕ) (report : Report)
    → IsWellFormed trace → length trace.calls < 2 ^ 60 → IsStrictlyIncreasing (lines_in trace) → AreOfOneRound trace.calls → IsMount (mount_of mount.board.opened) → IsMountOf basis trace mount.board.opened mount.fds
    → zero.view.opened ≡ mount.board.opened → HasFollowed mount trace.tokens trace.calls batch (Ok tt) then_ zero → AreCallsOf then_ told → IsClosedBy zero part_values store_values parts stores faults placed tail
    → AreSortedOut (made_calls told.answered.items) sorted → ShowsSchedule basis trace sorted (unanswered_calls told) report
    → IsFaithfulSchedule (SawStop zero.view) basis trace report
