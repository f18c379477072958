-- Device calls: what a pass tells of those that it makes between two steps on the devices that it owns.
use Rattle.std.specs.Prelude.{◌≡◌, ℕ, false, List, Option, Result, Ok, Err, OnOk, OnErr}
use Rattle.nv_pmem.specs.Calls.{Seen, PartCalls}
use Rattle.nv_pmem.specs.declared.lines.RegionFault.{RegionFault}
use Rattle.nv_store.specs.Store.{Store}
use Rattle.nv_store.specs.declared.backing.StoreError.{StoreError}
use Rattle.nv_store.specs.declared.backing.StoreError.TheVariants.{Fault, NoMemory}
use Rattle.nv_store.specs.declared.backing.StoreFault.{StoreFault}
use Rattle.nv_header.specs.HeaderSteps.{tail_steps}
use Rattle.nv_core.specs.state.Words.{Sizes, Word, HEADER, STORE}
use Rattle.nv_core.specs.state.Spares.{spares_of}
use Rattle.nv_core.specs.state.Values.{Value, APart, Job, PieceWrite, StoreSync, CallEnding, Made, Failed, Refused, called}
use Rattle.nv_core.specs.state.Cleaner.{Batch, MoveHeaderTail, FreeEntry, SetStop}
use Rattle.nv_core.specs.state.Passes.{Pass, Cleaning, times}
use Rattle.nv_core.specs.state.Core.{with_value}
use Rattle.nv_core.specs.steps.Order.{Values, Work, CallMayEnd, CallMayLeave}
use Rattle.nv_table.specs.state.SlotValues.{present}
use Rattle.nv_table.specs.state.States.{PassState}
use Rattle.nv_table.specs.steps.SeatSteps.{AreDue, pass_worked, values_after}
use Rattle.nv_pages.specs.Altered.{IsAltered}
use Rattle.nv_pages.specs.PageWork.{OfKept}

-- One call came: it ended as its device may end it, and left of the device what such a call may leave. Nothing else has changed.
pub record HasCalled (cell : Word) (job : Job) (ending : CallEnding) (old new : PassState) : Type 0 where
  pub ends : OfKept old (λ kept. CallMayEnd (kept cell) ending)
  pub leaves : OfKept old (λ kept. CallMayLeave (kept cell) job ending)
  pub altered : IsAltered (λ kept. with_value kept cell (called job ending (kept cell))) old new

-- Some bytes are written to the store of a file: well; or that failed; or it was refused for want of memory.
abbrev pub HasWritten : (file at : ℕ) → List ℕ → Result (Unit {0}) StoreError → (old new : PassState) → Type 0
HasWritten file at bytes (Ok done) old new = (left : Option Store) × HasCalled (STORE file) (PieceWrite at bytes left) Made old new
HasWritten file at bytes (Err Fault) old new = (left : Option Store) × (faults : ℕ) × HasCalled (STORE file) (PieceWrite at bytes left) (Failed false faults) old new
HasWritten file at bytes (Err NoMemory) old new = (left : Option Store) × HasCalled (STORE file) (PieceWrite at bytes left) Refused old new

-- the store of a file is synced, or that failed
abbrev pub HasSynced : (file : ℕ) → Result (Unit {0}) StoreFault → (old new : PassState) → Type 0
HasSynced file (Ok done) old new = HasCalled (STORE file) StoreSync Made old new
HasSynced file (Err fault) old new = (faults : ℕ) × HasCalled (STORE file) StoreSync (Failed false faults) old new

-- ---- the header's tail

-- a cell that keeps a part of which this is seen
abbrev pub part_seen : (identity : ℕ) → Seen → Value
part_seen identity seen = APart record { told = present seen.history; faults = seen.faults; identity = identity } (spares_of seen.room)

-- The calls of a move of the tail were made on the header's part, one after another, all of them or up to one that failed.
pub record HasMovedTail (tail : ℕ) (result : Result (Unit {0}) RegionFault) (old new : PassState) : Type 0 where
  pub identity : ℕ
  pub was : Seen
  pub now : Seen
  pub kept : OfKept old (λ kept. kept HEADER ≡ part_seen identity was)
  pub calls : PartCalls (tail_steps tail) was now result
  pub altered : IsAltered (λ kept. with_value kept HEADER (part_seen identity now)) old new

-- Such calls are due for a cleaner that is about to move the tail. Behind them it frees its first entry, or sets STOP.
pub record AreTailCalls (sizes : Sizes) (values : Values) (pass : Pass) (batch : Batch) (identity : ℕ) (now : Seen) (result : Result (Unit {0}) RegionFault) : Type 0 where
  pub works : List Work
  pub due : AreDue sizes values pass works
  pub kept : (cell : Word) → values_after sizes works pass values cell ≡ with_value values HEADER (part_seen identity now) cell
  pub freeing : OnOk result ((pass_worked sizes works pass).control ≡ Cleaning batch (FreeEntry batch.tail))
  pub failing : OnErr result ((pass_worked sizes works pass).control ≡ Cleaning batch (SetStop 0))

abbrev pub TailCallsAreDue : Type 0
TailCallsAreDue =
    (sizes : Sizes) (values : Values) (pass : Pass) (batch : Batch) (identity : ℕ) (was now : Seen) (result : Result (Unit {0}) RegionFault)
    → pass.control ≡ Cleaning batch (MoveHeaderTail 0) → times HEADER pass.owned ≡ 1 → values HEADER ≡ part_seen identity was
    → PartCalls (tail_steps batch.reached) was now result → AreTailCalls sizes values pass batch identity now result
