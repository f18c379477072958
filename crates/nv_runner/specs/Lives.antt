-- Lives: what a run leaves of its devices, whatever it was ended by.
use Rattle.std.specs.Prelude.{◌≡◌, ℕ, List, ◌++◌, map, Result}
use Rattle.std.specs.List.Sorted.{IsStrictlyIncreasing}
use Rattle.nv_plain.specs.Files.{Files}
use Rattle.nv_plain.specs.Histories.{IsLegal, after}
use Rattle.nv_plain.specs.Images.{Image}
use Rattle.nv_plain.specs.Layouts.{mount_layout}
use Rattle.nv_plain.specs.Recovered.{Fits, recovered}
use Rattle.nv_plain.specs.Made.{after_calls}
use Rattle.nv_pmem.specs.Rows.{InEachRowImage, RowTells}
use Rattle.nv_pmem.specs.Steps.{PartHistory}
use Rattle.nv_store.specs.Steps.{StoreHistory}
use Rattle.nv_header.specs.Heads.{IsHead, first_names}
use Rattle.nv_plain.specs.Images.{header_of}
use Rattle.nv_recover.specs.Standing.{AreStoreImages}
use Rattle.nv_core.specs.crash.CrashImages.{OpensRegion}
use Rattle.nv_core.specs.state.Passes.{IsOneOf}
use Rattle.nv_core.specs.state.Values.{Value}
use Rattle.nv_table.specs.state.Opened.{mount_of}
use Rattle.nv_table.specs.state.States.{PassState}
use Rattle.nv_table.specs.state.Views.{first_view}
use Rattle.nv_mount.specs.declared.fds.Fd.{Fd}
use Rattle.nv_trace.specs.Shape.{IsWellFormed}
use Rattle.nv_trace.specs.Traced.{Traced, lines_in}
use Rattle.nv_trace.specs.declared.trace_call.TracedCall.{TracedCall}
use Rattle.nv_runner.specs.declared.plan.Plan.{Plan}
use Rattle.nv_runner.specs.declared.run_error.RunError.{RunError}
use Rattle.nv_runner.specs.declared.sorted.SortedCalls.{SortedCalls}
use Rattle.nv_runner.specs.EndedRuns.{HasOutcome, IsClosedBy}
use Rattle.nv_runner.specs.Faithful.{Basis, descriptors_in, file_call, history_of}
use Rattle.nv_runner.specs.FaithfulRuns.{IsMountOf}
use Rattle.nv_runner.specs.Histories.{KeepOrder, PlacedCall}
use Rattle.nv_runner.specs.Sorted.{HaveOwnLines}

-- Calls of a trace have their place: they are a history that is legal from the files of the basis, in the order of each thread's lines and of the rounds.
pub record IsHistoryOf (basis : Basis) (trace : Traced) (history : List PlacedCall) : Type 0 where
  pub legal : IsLegal (history_of (descriptors_in basis.names trace) history) basis.files
  pub of_trace : (p : PlacedCall) → IsOneOf history p → IsOneOf trace.calls p.call
  pub in_order : KeepOrder (map (λ p. p.call) history)

-- the files after some calls of a trace behind a history
abbrev pub files_behind : Basis → Traced → List PlacedCall → List TracedCall → Files
files_behind basis trace history calls =
    let descriptors = descriptors_in basis.names trace in
    after_calls (map (λ call. file_call descriptors call.call) calls) (after (history_of descriptors history) basis.files)

-- An image says the sizes and names of a basis, and recovers to the files after a history and then some other calls of the trace, each whole. No two of all these are of one line, so each call is there once.
pub record RecoversBehind (basis : Basis) (trace : Traced) (history : List PlacedCall) (image : Image) (bytes : Files) : Type 0 where
  pub readable : IsHead mount_layout mount_layout.header_lines image
  pub page_is : (header_of image).page ≡ basis.sizes.page
  pub entries_is : (header_of image).entries ≡ basis.sizes.entries
  pub names_are : first_names mount_layout image (header_of image).files ≡ basis.names
  pub fits : Fits mount_layout image
  pub kept : List TracedCall
  pub of_trace : (call : TracedCall) → IsOneOf kept call → IsOneOf trace.calls call
  pub own_lines : HaveOwnLines (map (λ p. p.call) history ++ kept)
  pub files : (recovered image bytes).files ≡ files_behind basis trace history kept

-- Parts and stores were left by a run of a trace from a basis: some of its calls have their place, and whatever a power failure leaves recovers to the files after these and then some others.
pub record LeaveLife (basis : Basis) (trace : Traced) (parts : List PartHistory) (stores : List StoreHistory) : Type 0 where
  pub history : List PlacedCall
  pub is : IsHistoryOf basis trace history
  pub images : RowTells parts (InEachRowImage (λ image. RowTells stores (λ held. (bytes : Files) → AreStoreImages held bytes → RecoversBehind basis trace history image bytes)))

-- So they are left where a run over a new mount of its basis came to whatever end, and the mount was closed then.
abbrev pub RunsLeaveLives : Type 0
RunsLeaveLives =
    (basis : Basis) (trace : Traced) (fds : List Fd) (plan : Plan) (start zero : PassState) (outcome : Result SortedCalls RunError) (part_values store_values : List Value) (parts : List PartHistory)
    (stores : List StoreHistory) (faults placed tail : ℕ)
    → IsWellFormed trace → IsStrictlyIncreasing (lines_in trace) → IsMountOf basis trace start.view.opened fds → OpensRegion (mount_of start.view.opened) basis.names → start.view ≡ first_view start.view.opened
    → HasOutcome fds plan trace.calls start outcome zero → IsClosedBy zero part_values store_values parts stores faults placed tail
    → LeaveLife basis trace parts stores
