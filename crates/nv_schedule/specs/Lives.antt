-- Lives: what a schedule leaves of its devices, whatever it was ended by.
use Rattle.std.specs.Prelude.{ℕ, List, Result}
use Rattle.std.specs.List.Sorted.{IsStrictlyIncreasing}
use Rattle.nv_bench.specs.Benches.{BenchState}
use Rattle.nv_core.specs.crash.CrashImages.{OpensRegion}
use Rattle.nv_core.specs.state.Values.{Value}
use Rattle.nv_pmem.specs.Steps.{PartHistory}
use Rattle.nv_store.specs.Steps.{StoreHistory}
use Rattle.nv_table.specs.state.Opened.{mount_of}
use Rattle.nv_table.specs.state.States.{PassState}
use Rattle.nv_mount.specs.Mounts.{MountState}
use Rattle.nv_runner.specs.EndedRuns.{IsClosedBy}
use Rattle.nv_runner.specs.Faithful.{Basis}
use Rattle.nv_runner.specs.FaithfulRuns.{IsMountOf}
use Rattle.nv_runner.specs.Lives.{LeaveLife}
use Rattle.nv_trace.specs.Traced.{Traced, lines_in}
use Rattle.nv_schedule.specs.Scheduled.{HasScheduled}
use Rattle.nv_schedule.specs.SortedOut.{AreOfOneRound}
use Rattle.nv_schedule.specs.declared.schedule_error.ScheduleError.{ScheduleError}
use Rattle.nv_schedule.specs.declared.scheduled.ScheduledCalls.{ScheduledCalls}

-- They are left as a run leaves them, where a schedule of a trace without rounds over a new mount of its basis came to whatever end, and the mount was closed then.
abbrev pub SchedulesLeaveLives : Type 0
SchedulesLeaveLives =
    (basis : Basis) (trace : Traced) (mount : MountState) (batch : ℕ) (start zero : PassState) (bench armed : BenchState) (outcome : Result ScheduledCalls ScheduleError) (part_values store_values : List Value)
    (parts : List PartHistory) (stores : List StoreHistory) (faults placed tail : ℕ)
    → IsStrictlyIncreasing (lines_in trace) → AreOfOneRound trace.calls → IsMountOf basis trace start.view.opened mount.fds → OpensRegion (mount_of start.view.opened) basis.names
    → HasScheduled mount trace.tokens trace.calls batch start zero bench armed outcome → IsClosedBy zero part_values store_values parts stores faults placed tail
    → LeaveLife basis trace parts stores
