-- Tied: how the writes that a report lists stand in the log that power left, by the numbers that they drew in its run.
use Rattle.std.specs.Prelude.{◌≡◌, ◌⊎◌, ℕ, ◌<◌, List, length, All}
use Rattle.nv_plain.specs.Files.{Files}
use Rattle.nv_plain.specs.Histories.{Answered}
use Rattle.nv_plain.specs.Images.{Image}
use Rattle.nv_plain.specs.Recovered.{recovered}
use Rattle.nv_plain.specs.declared.call.FileCall.{FileCall}
use Rattle.nv_pmem.specs.Rows.{row_words}
use Rattle.nv_pmem.specs.declared.picker.Pick.{Pick}
use Rattle.nv_bench.specs.Benches.{BenchState}
use Rattle.nv_bench.specs.Holding.{NamedStore}
use Rattle.nv_core.specs.state.Passes.{IsOneOf}
use Rattle.nv_table.specs.state.Views.{PassView}
use Rattle.nv_mount.specs.WholeWrites.{WasPlaced}
use Rattle.nv_trace.specs.Traced.{Traced}
use Rattle.nv_runner.specs.Faithful.{Basis, IsWrite, RunSizes, descriptors_in, file_call}
use Rattle.nv_runner.specs.Histories.{PlacedCall}
use Rattle.nv_runner.specs.KeptCalls.{HasWrite, IsKeptWhole}
use Rattle.nv_runner.specs.Reports.{Report}
use Rattle.nv_runner.specs.Sorted.{OpenedCall}
use Rattle.nv_top.specs.Behind.{HasLostPowerBehind}
use Rattle.nv_top.specs.Stopped.{IsRunOfReport}

-- a call of a report's history drew this number, as its first one, in the run that a pass saw last so, and got its place there
abbrev pub DrewInRun : Basis → Traced → (last : PassView) → PlacedCall → (number : ℕ) → Type 0
DrewInRun basis trace last placed number =
    (earlier : List Answered) × (answered : Answered) × (length earlier ≡ placed.place) × (answered.call ≡ file_call (descriptors_in basis.names trace) placed.call.call)
    × WasPlaced last.opened last.run earlier answered number

-- An image has a write by this number: it lies below the first one that recovery finds, so that the write's file has it; or it leads a group there, of the write's own file, offset and bytes.
abbrev pub IsThere : RunSizes → Image → (bytes : Files) → (number : ℕ) → FileCall → Type 0
IsThere sizes image bytes number call = (number < (recovered image bytes).first) ⊎ (IsOneOf (recovered image bytes).groups number × HasWrite sizes image number call)

-- An image has each write of a report's history by the number that it drew. Where one that was left open leads a group there, that is the write itself. And no other write has a group there.
pub record AreTied (basis : Basis) (trace : Traced) (report : Report) (left : List OpenedCall) (last : PassView) (image : Image) : Type 0 where
  pub placed : All (λ p. IsWrite p.call.call
      → (number : ℕ) × DrewInRun basis trace last p number × IsThere basis.sizes image basis.files number (file_call (descriptors_in basis.names trace) p.call.call)) report.history
  pub kept : All (IsKeptWhole basis trace image basis.files) left
  pub committed : (number : ℕ) → IsOneOf (recovered image basis.files).groups number
      → ((p : PlacedCall) × IsOneOf report.history p × DrewInRun basis trace last p number) ⊎ ((one : OpenedCall) × IsOneOf left one × (one.number ≡ number))

-- So it is of a report of a run of the core, and of whatever power left behind that run: of a run that was stopped, and of a schedule.
abbrev pub FatesAreTied : Type 0
FatesAreTied =
    (basis : Basis) (trace : Traced) (report : Report) (left : List OpenedCall) (last : PassView) (pick : Pick) (before : List Pick) (many : ℕ) (others : List NamedStore) (bench : BenchState)
    → IsRunOfReport basis trace report left last → (behind : HasLostPowerBehind last pick before basis many others bench) → AreTied basis trace report left last (row_words behind.lost.power.parts)
