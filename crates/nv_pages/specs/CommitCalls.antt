-- Commit calls: what a commit tells of its calls, part by part, are the device calls that are due before a write's next step.
use Rattle.std.specs.Prelude.{◌≡◌, ◌≢◌, ℕ, ◌+◌, ◌<◌, ◌≤◌, List, [], ◌∷◌, length, slice_index_or, Option, Some, None, Result, OnOk, OnErr}
use Rattle.nv_pmem.specs.Calls.{Seen, RowCalls}
use Rattle.nv_pmem.specs.Part.{Part}
use Rattle.nv_pmem.specs.declared.lines.RegionFault.{RegionFault}
use Rattle.nv_core.specs.state.Words.{Sizes, Word, ENTRY, slot_of_entry}
use Rattle.nv_core.specs.state.Spares.{spares_of}
use Rattle.nv_core.specs.state.Values.{Value, APart, Device}
use Rattle.nv_core.specs.state.Passes.{Pass, CommitGroup, PledgePage, SetStopAfterCommit, first_page, times}
use Rattle.nv_core.specs.steps.Order.{Values, Work, commit_steps}
use Rattle.nv_table.specs.steps.SeatSteps.{AreDue, pass_worked, values_after}

-- the present state of a device, if it tells one
abbrev pub told_of : {S : Type 0} → List S → Option S
told_of [] = None
told_of (now ∷ past) = Some now

-- A cell keeps a part of which this is seen.
pub record KeepsPart (value : Value) (seen : Seen) : Type 0 where
  pub device : Device Part
  pub is : value ≡ APart device (spares_of seen.room)
  pub told : device.told ≡ told_of seen.history
  pub faults : device.faults ≡ seen.faults

-- the cell of part i of a write's entries
abbrev pub entry_cell : Sizes → (first i : ℕ) → Word
entry_cell sizes first i = ENTRY (slot_of_entry sizes (first + i))

-- the cells of a write's entries keep the parts of a row
pub record KeepCommitRow (sizes : Sizes) (values : Values) (first : ℕ) (row : List Seen) : Type 0 where
  pub each : (i : ℕ) (default : Seen) → i < length row → KeepsPart (values (entry_cell sizes first i)) (slice_index_or row i default)

-- A pass is about to commit, and has these parts among its owned cells.
pub record IsCommitting (sizes : Sizes) (values : Values) (pass : Pass) (row : List Seen) : Type 0 where
  pub control : pass.control ≡ CommitGroup 0
  pub some : 0 < length (commit_steps sizes pass pass.call)
  pub few : length row ≤ sizes.entries
  pub here : (i : ℕ) → i < length row → times (entry_cell sizes pass.first i) pass.owned ≡ 1
  pub kept : KeepCommitRow sizes values pass.first row

-- Device calls are due then, one after another, that leave these parts there and all other cells as they were; behind them the pass pledges its first page,
-- or sets STOP.
pub record HasCommitted (sizes : Sizes) (values : Values) (pass : Pass) (old new : List Seen) (result : Result (Unit {0}) RegionFault) : Type 0 where
  pub works : List Work
  pub due : AreDue sizes values pass works
  pub kept : KeepCommitRow sizes (values_after sizes works pass values) pass.first new
  pub others : (cell : Word) → ((i : ℕ) → i < length old → cell ≢ entry_cell sizes pass.first i) → values_after sizes works pass values cell ≡ values cell
  pub pledging : OnOk result ((pass_worked sizes works pass).control ≡ PledgePage (first_page sizes pass.call))
  pub failing : OnErr result ((pass_worked sizes works pass).control ≡ SetStopAfterCommit)

abbrev pub CommitsAreDue : Type 0
CommitsAreDue =
    (sizes : Sizes) (values : Values) (pass : Pass) (old new : List Seen) (result : Result (Unit {0}) RegionFault)
    → IsCommitting sizes values pass old → RowCalls (commit_steps sizes pass pass.call) old new result → HasCommitted sizes values pass old new result
