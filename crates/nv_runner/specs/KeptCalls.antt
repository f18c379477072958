-- Kept calls: what a power failure leaves in the log of the calls that were left open.
use Rattle.std.specs.Prelude.{ℕ, ◌+◌, ◌%◌, List, map, All, Ok}
use Rattle.std.specs.List.{concat}
use Rattle.nv_plain.specs.Files.{Files}
use Rattle.nv_plain.specs.Images.{Image}
use Rattle.nv_plain.specs.Recovered.{recovered}
use Rattle.nv_plain.specs.declared.call.FileCall.{FileCall}
use Rattle.nv_plain.specs.declared.call.FileCall.TheVariants.{Write, Writev}
use Rattle.nv_entry.specs.Group.{IsWholeGroup}
use Rattle.nv_core.specs.state.Passes.{IsOneOf}
use Rattle.nv_table.specs.state.States.{PassState}
use Rattle.nv_mount.specs.WholeWrites.{LeavesWholeWrites}
use Rattle.nv_mount.specs.declared.fds.Fd.{Fd}
use Rattle.nv_trace.specs.Traced.{Traced}
use Rattle.nv_runner.specs.declared.plan.Plan.{Plan}
use Rattle.nv_runner.specs.declared.sorted.SortedCalls.{SortedCalls}
use Rattle.nv_runner.specs.EndedRuns.{HasOutcome}
use Rattle.nv_runner.specs.Faithful.{Basis, RunSizes, descriptors_in, file_call}
use Rattle.nv_runner.specs.FaithfulRuns.{IsMountOf}
use Rattle.nv_runner.specs.Sorted.{OpenedCall, opened_call}

-- An image has this write whole, from this number of the log on: its file, its offset and all its bytes, those of all its parts in order.
abbrev pub HasWrite : RunSizes → Image → (number : ℕ) → FileCall → Type 0
HasWrite sizes image number (Write file at bytes) = IsWholeGroup sizes.page number file at bytes (λ i. image (1 + (number + i) % sizes.entries))
HasWrite sizes image number (Writev file at parts) = IsWholeGroup sizes.page number file at (concat parts) (λ i. image (1 + (number + i) % sizes.entries))
HasWrite sizes image number call = ⊥

-- A call that was left open is among the groups that an image recovers only as itself.
abbrev pub IsKeptWhole : Basis → Traced → Image → (bytes : Files) → OpenedCall → Type 0
IsKeptWhole basis trace image bytes one =
    IsOneOf (recovered image bytes).groups one.number → HasWrite basis.sizes image one.number (file_call (descriptors_in basis.names trace) one.call.call)

-- So is each that a run of a trace left open, in whatever image its devices leave.
abbrev pub OpenCallsAreKeptWhole : Type 0
OpenCallsAreKeptWhole =
    (basis : Basis) (trace : Traced) (fds : List Fd) (plan : Plan) (start zero : PassState) (sorted : SortedCalls) (files : Files) (names : List (List ℕ)) (image : Image) (bytes : Files)
    → IsMountOf basis trace start.view.opened fds → HasOutcome fds plan trace.calls start (Ok sorted) zero → LeavesWholeWrites zero.view files names image bytes
    → All (IsKeptWhole basis trace image bytes) (map opened_call sorted.open_calls.items)
