-- Failed devices: whose count rose where a call of a run was refused for a device's fault.
use Rattle.std.specs.Prelude.{ℕ, ◌+◌, ◌<◌, ◌≤◌, List, map, All, Ok, slice_index_or}
use Rattle.nv_plain.specs.Faults.{Rose}
use Rattle.nv_pmem.specs.Steps.{PartHistory}
use Rattle.nv_store.specs.Steps.{StoreHistory}
use Rattle.nv_core.specs.state.Values.{Value, Bare, faults_of}
use Rattle.nv_core.specs.steps.Opening.{IsMount}
use Rattle.nv_table.specs.state.Opened.{Opened, mount_of}
use Rattle.nv_table.specs.state.States.{PassState}
use Rattle.nv_mount.specs.declared.fds.Fd.{Fd}
use Rattle.nv_mirror.specs.declared.answers.Refusal.{Refusal}
use Rattle.nv_mirror.specs.declared.answers.Refusal.TheVariants.{RegionFault, StoreFault}
use Rattle.nv_trace.specs.declared.trace_call.TracedCall.{TracedCall}
use Rattle.nv_runner.specs.declared.plan.Plan.{Plan}
use Rattle.nv_runner.specs.declared.sorted.SortedCalls.{SortedCalls}
use Rattle.nv_runner.specs.EndedRuns.{HasOutcome, IsClosedBy}
use Rattle.nv_runner.specs.Sorted.{refused_call}

-- Of the parts that came out of a mount one has failed more often than when it was opened: that of the header, or that of an entry.
pub record PartHasFailed (opened : Opened) (parts : List Value) : Type 0 where
  pub slot : ℕ
  pub there : slot ≤ opened.sizes.entries
  pub rose : Rose (faults_of (slice_index_or opened.slots slot Bare)) (faults_of (slice_index_or parts slot Bare))

-- Of the stores that came out of it one has: they come behind the parts.
pub record StoreHasFailed (opened : Opened) (stores : List Value) : Type 0 where
  pub file : ℕ
  pub there : file < opened.sizes.files
  pub rose : Rose (faults_of (slice_index_or opened.slots (1 + opened.sizes.entries + file) Bare)) (faults_of (slice_index_or stores file Bare))

-- the device has failed for whose fault a call is refused
abbrev pub HasFailedFor : Opened → (parts stores : List Value) → Refusal → Type 0
HasFailedFor opened parts stores RegionFault = PartHasFailed opened parts
HasFailedFor opened parts stores StoreFault = StoreHasFailed opened stores
HasFailedFor opened parts stores refusal = Unit {0}

-- A call of a run is refused for a fault of the region only where the count of a part rose while the mount was open, and for one of a store only where the count of a store did.
abbrev pub FaultsAreOfTheirDevices : Type 0
FaultsAreOfTheirDevices =
    (fds : List Fd) (plan : Plan) (calls : List TracedCall) (start zero : PassState) (sorted : SortedCalls) (part_values store_values : List Value) (parts : List PartHistory)
    (stores : List StoreHistory) (faults placed tail : ℕ)
    → IsMount (mount_of zero.view.opened) → HasOutcome fds plan calls start (Ok sorted) zero → IsClosedBy zero part_values store_values parts stores faults placed tail
    → All (λ r. HasFailedFor zero.view.opened part_values store_values r.refusal) (map refused_call sorted.refused.items)
