-- Flights: which calls the writes in flight are that a schedule leaves.
use Rattle.std.specs.Prelude.{List, ◌++◌, IsPermutation}
use Rattle.std.specs.List.{flat_map}
use Rattle.nv_core.specs.state.Passes.{Fault, Pass}
use Rattle.nv_table.specs.state.States.{PassState}
use Rattle.nv_mount.specs.WholeWrites.{at_hand, flights_then}
use Rattle.nv_mount.specs.declared.fds.Fd.{Fd}
use Rattle.nv_calls.specs.histories.Faults.{open_in}
use Rattle.nv_runner.specs.OpenRuns.{open_of}
use Rattle.nv_runner.specs.Sorted.{OpenedCall, opened_calls}
use Rattle.nv_schedule.specs.Listed.{all_listed}
use Rattle.nv_schedule.specs.Turns.{CallerState}

-- the writes in flight of a pass: the one that it has at hand, if it has one, and those that device faults ended
abbrev pub flights_of : Pass → List Fault
flights_of pass = at_hand pass pass.control ++ pass.faulted

-- The writes in flight of a closed run, those that passes have at hand and those that device faults ended, are the calls of some callers that are listed as open, each once.
abbrev pub OpenAreFlights : List Fd → List CallerState → (zero : PassState) → Type 0
OpenAreFlights fds callers zero =
    (left : List OpenedCall) → IsPermutation (opened_calls (all_listed callers)) left → IsPermutation (flat_map (open_of fds) left) (open_in (flights_then zero.view))
