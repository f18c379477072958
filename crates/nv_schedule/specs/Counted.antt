-- Counted: a device call that fails in a schedule raises the count of faults.
use Rattle.std.specs.Prelude.{◌≡◌, ℕ, List, Err}
use Rattle.nv_plain.specs.Faults.{Rose}
use Rattle.nv_pmem.specs.Steps.{PartHistory}
use Rattle.nv_store.specs.Steps.{StoreHistory}
use Rattle.nv_core.specs.state.Values.{Value}
use Rattle.nv_core.specs.steps.Opening.{IsMount}
use Rattle.nv_table.specs.state.Opened.{mount_of}
use Rattle.nv_table.specs.state.States.{PassState}
use Rattle.nv_mount.specs.Mounts.{MountState}
use Rattle.nv_mount.specs.RisenCounts.{failed_before}
use Rattle.nv_runner.specs.EndedRuns.{IsClosedBy}
use Rattle.nv_trace.specs.declared.token.Token.{Token}
use Rattle.nv_trace.specs.declared.trace_call.TracedCall.{TracedCall}
use Rattle.nv_schedule.specs.Scheduled.{HasFollowed}
use Rattle.nv_schedule.specs.Turns.{CallerState}
use Rattle.nv_schedule.specs.declared.schedule_error.ScheduleError.TheVariants.{Fault}

-- Where a schedule over a new mount met a fault, and the mount was closed then, the count of its devices' faults rose above what it was at opening.
abbrev pub FaultsAreCounted : Type 0
FaultsAreCounted =
    (mount : MountState) (tokens : List Token) (calls : List TracedCall) (batch : ℕ) (then_ : List CallerState) (zero : PassState) (part_values store_values : List Value) (parts : List PartHistory)
    (stores : List StoreHistory) (faults placed tail : ℕ)
    → IsMount (mount_of mount.board.opened) → zero.view.opened ≡ mount.board.opened → HasFollowed mount tokens calls batch (Err Fault) then_ zero
    → IsClosedBy zero part_values store_values parts stores faults placed tail → Rose (failed_before zero) faults
