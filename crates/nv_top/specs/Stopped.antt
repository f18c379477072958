-- Stopped: what a run that was stopped shows, over the run of the core that it was.
use Rattle.std.specs.Prelude.{◌≡◌, ℕ, ◌≤◌, Bool, List, ◌++◌, map, All, IsPermutation}
use Rattle.nv_plain.specs.Files.{Files}
use Rattle.nv_plain.specs.Recovered.{recovered}
use Rattle.nv_pmem.specs.Part.{Part}
use Rattle.nv_pmem.specs.Rows.{row_words}
use Rattle.nv_pmem.specs.declared.picker.Pick.{Pick}
use Rattle.nv_bench.specs.Benches.{BenchState}
use Rattle.nv_bench.specs.Holding.{NamedStore}
use Rattle.nv_open.specs.Held.{files_named}
use Rattle.nv_core.specs.state.Passes.{IsOneOf, plain_call}
use Rattle.nv_table.specs.state.Views.{PassView}
use Rattle.nv_mount.specs.RisenCounts.{SawStop}
use Rattle.nv_mount.specs.WholeRuns.{history_then}
use Rattle.nv_mount.specs.WholeWrites.{flights_then}
use Rattle.nv_calls.specs.histories.Faults.{OpenWrite, open_in}
use Rattle.nv_trace.specs.Traced.{Traced}
use Rattle.nv_trace.specs.declared.trace.Descriptor.{Descriptor}
use Rattle.nv_runner.specs.DrawnNumbers.{DrewInARow}
use Rattle.nv_runner.specs.Entries.{entries_taken}
use Rattle.nv_runner.specs.Faithful.{Basis, IsFaithful, descriptors_in, drawing_calls, file_call, files_shown}
use Rattle.nv_runner.specs.FaithfulRuns.{IsMountOf, as_fd}
use Rattle.nv_runner.specs.Histories.{AreHistory, PlacedCall}
use Rattle.nv_runner.specs.KeptCalls.{IsKeptWhole}
use Rattle.nv_runner.specs.Reports.{OpenCall, Report, history_lines}
use Rattle.nv_runner.specs.RunRefusals.{IsRunOfPasses}
use Rattle.nv_runner.specs.Sorted.{OpenedCall}
use Rattle.nv_top.specs.Behind.{HasLostPowerBehind}
use Rattle.nv_top.specs.Fates.{fate_of}
use Rattle.nv_top.specs.Readings.{HavePlainNames}
use Rattle.nv_top.specs.Reports.{report_text}

-- ---- the run

-- a write that was left open, as a write of its file
abbrev pub left_write : List Descriptor → OpenedCall → OpenWrite
left_write descriptors one = record { call = plain_call (file_call descriptors one.call.call); first = one.number }

-- A report is of this run of the core, as pass 0 saw it last: it goes from an opening of the basis on, and has the events of all passes; its history is the report's; and the writes in flight at its end are those that were left open,
-- each with the first number that it drew.
pub record IsRunOfReport (basis : Basis) (trace : Traced) (report : Report) (left : List OpenedCall) (last : PassView) : Type 0 where
  pub opened : IsMountOf basis trace last.opened (map as_fd (descriptors_in basis.names trace))
  pub passes : IsRunOfPasses last
  pub history : AreHistory (map as_fd (descriptors_in basis.names trace)) report.history (history_then last)
  pub flights : IsPermutation (map (left_write (descriptors_in basis.names trace)) left) (open_in (flights_then last))

-- ---- fates

-- a write that was left open, with its fate: what the log says of its number that stands in these parts
abbrev pub fated_in : List Part → Files → OpenedCall → OpenCall
fated_in parts files one =
    let log = recovered (row_words parts) files in record { call = one.call; fate = fate_of log.first log.groups one.number }

-- The placed and the open calls drew their numbers in a row, from the basis' next one on. The open ones are those that were left open, with the fates that the log says that stands in these parts: the number of each is no lower than the
-- first one there, and where it leads a group that is the write itself, with its file, its offset and its bytes.
pub record HaveFates (basis : Basis) (trace : Traced) (parts : List Part) (report : Report) (left : List OpenedCall) : Type 0 where
  pub drew : DrewInARow (entries_taken basis.sizes.page) basis.next (drawing_calls report)
  pub own : All (λ one. IsOneOf drew.drawn (record { call = one.call; number = one.number })) left
  pub fates : report.open_calls ≡ map (fated_in parts basis.files) left
  pub low : All (λ one. (recovered (row_words parts) basis.files).first ≤ one.number) left
  pub whole : All (IsKeptWhole basis trace (row_words parts) basis.files) left

-- ---- what is shown

-- The text is that of a faithful report of a run of the trace. It is of a run of the core: a call was stopped, met a fault or was left open only where a pass of that run saw STOP set, and that only where this says so. Power went off behind it,
-- with this pick; what it left stood for the files that are shown, and the fates are by the log of that.
pub record HasStoppedOn (failed : Type 0) (worker : Bool) (pick : Pick) (before : List Pick) (basis : Basis) (trace : Traced) (many : ℕ) (others : List NamedStore) (bench : BenchState) (text : List ℕ) : Type 0 where
  pub report : Report
  pub last : PassView
  pub faithful : IsFaithful (SawStop last) worker basis trace report
  pub stopped : SawStop last → failed
  pub plain : HavePlainNames report.files
  pub text_is : text ≡ report_text report
  pub open_calls : List OpenedCall
  pub ran : IsRunOfReport basis trace report open_calls last
  pub left : HasLostPowerBehind last pick before basis many others bench
  pub shows : files_named left.lost.power.parts basis.names left.lost.power.stores ≡ files_shown basis trace report
  pub fated : HaveFates basis trace left.lost.power.parts report open_calls

-- The text is that of the rest of such a report, behind the lines of these calls, which are all that have a place.
abbrev pub HasStoppedBehind : (failed : Type 0) (worker : Bool) (pick : Pick) (before : List Pick) (basis : Basis) (trace : Traced) (shown : List PlacedCall) (many : ℕ) (others : List NamedStore) (bench : BenchState) (text : List ℕ) → Type 0
HasStoppedBehind failed worker pick before basis trace shown many others bench text =
    (stopped : HasStoppedOn failed worker pick before basis trace many others bench (history_lines 0 shown ++ text)) × (stopped.report.history ≡ shown)
