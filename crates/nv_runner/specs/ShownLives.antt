-- Shown lives: what a run leaves of its devices, whose first calls were shown before it ended.
use Rattle.std.specs.Prelude.{◌≡◌, ℕ, ◌^◌, ◌<◌, List, ◌++◌, length, Result}
use Rattle.std.specs.List.Sorted.{IsStrictlyIncreasing}
use Rattle.nv_plain.specs.Files.{Files}
use Rattle.nv_pmem.specs.Rows.{InEachRowImage, RowTells}
use Rattle.nv_pmem.specs.Steps.{PartHistory}
use Rattle.nv_store.specs.Steps.{StoreHistory}
use Rattle.nv_recover.specs.Standing.{AreStoreImages}
use Rattle.nv_core.specs.crash.CrashImages.{OpensRegion}
use Rattle.nv_core.specs.state.Values.{Value}
use Rattle.nv_table.specs.state.Opened.{mount_of}
use Rattle.nv_table.specs.state.States.{PassState}
use Rattle.nv_table.specs.state.Views.{first_view}
use Rattle.nv_mount.specs.RisenCounts.{SawStop}
use Rattle.nv_mount.specs.declared.fds.Fd.{Fd}
use Rattle.nv_trace.specs.Shape.{IsWellFormed}
use Rattle.nv_trace.specs.Traced.{Traced, lines_in}
use Rattle.nv_runner.specs.declared.plan.Plan.{Plan}
use Rattle.nv_runner.specs.declared.run_error.RunError.{RunError}
use Rattle.nv_runner.specs.declared.sorted.SortedCalls.{SortedCalls}
use Rattle.nv_runner.specs.EndedRuns.{HasOutcome, IsClosedBy}
use Rattle.nv_runner.specs.Faithful.{Basis}
use Rattle.nv_runner.specs.FaithfulRuns.{IsMountOf}
use Rattle.nv_runner.specs.Histories.{AreAtPlaces, PlacedCall}
use Rattle.nv_runner.specs.KeptRounds.{AreFirstPlaced, AreRoundsOver}
use Rattle.nv_runner.specs.Lives.{IsHistoryOf, RecoversBehind}
use Rattle.nv_runner.specs.ToldRounds.{TellsRounds}

-- Parts and stores were left by a run of a trace from a basis, whose history begins with these calls.
pub record LeaveLifeBehind (basis : Basis) (trace : Traced) (shown : List PlacedCall) (parts : List PartHistory) (stores : List StoreHistory) : Type 0 where
  pub later : List PlacedCall
  pub is : IsHistoryOf basis trace (shown ++ later)
  pub images : RowTells parts (InEachRowImage (λ image. RowTells stores (λ held. (bytes : Files) → AreStoreImages held bytes → RecoversBehind basis trace (shown ++ later) image bytes)))

-- So they are left by a run over a new mount of its basis that came to whatever end, with any first ones of the calls that have a place, by their places; and these are at the places from 0 on. Where the rounds before the last are over it has
-- told of them.
abbrev pub RunsLeaveShownLives : Type 0
RunsLeaveShownLives =
    (basis : Basis) (trace : Traced) (fds : List Fd) (plan : Plan) (start zero : PassState) (outcome : Result SortedCalls RunError) (shown : List PlacedCall) (part_values store_values : List Value) (parts : List PartHistory)
    (stores : List StoreHistory) (faults placed tail : ℕ)
    → IsWellFormed trace → IsStrictlyIncreasing (lines_in trace) → IsMountOf basis trace start.view.opened fds → OpensRegion (mount_of start.view.opened) basis.names → start.view ≡ first_view start.view.opened
    → (out : HasOutcome fds plan trace.calls start outcome zero) → (first : AreFirstPlaced out.made shown) → IsClosedBy zero part_values store_values parts stores faults placed tail
    → AreAtPlaces 0 shown × (life : LeaveLifeBehind basis trace shown parts stores)
    × (length trace.calls < 2 ^ 60 → AreRoundsOver trace.calls out.made first.later → TellsRounds (SawStop zero.view) plan.worker basis trace shown life.later)
