-- Faithful runs: the mount of a run of a trace, and the report that shows its sorted calls.
use Rattle.std.specs.Prelude.{◌≡◌, ℕ, ◌+◌, ◌^◌, ◌<◌, List, [], ◌∷◌, length, map, Option, Some, None, is_none, true, Ok, All}
use Rattle.std.specs.List.{flat_map}
use Rattle.std.specs.List.Sorted.{IsStrictlyIncreasing}
use Rattle.nv_plain.specs.Histories.{after}
use Rattle.nv_pmem.specs.Steps.{PartHistory}
use Rattle.nv_store.specs.Steps.{StoreHistory}
use Rattle.nv_core.specs.state.Passes.{IsOneOf}
use Rattle.nv_core.specs.state.Values.{Value}
use Rattle.nv_core.specs.steps.Opening.{IsMount}
use Rattle.nv_core.specs.content.Content.{Opens}
use Rattle.nv_core.specs.log.LogContent.{OpensLog}
use Rattle.nv_table.specs.state.Opened.{IsRunOf, Opened, mount_of}
use Rattle.nv_table.specs.state.States.{PassState}
use Rattle.nv_table.specs.state.Views.{first_view}
use Rattle.nv_mount.specs.ClosedAtRest.{HasEmptiedLog, files_then}
use Rattle.nv_mount.specs.RisenCounts.{SawStop}
use Rattle.nv_mount.specs.declared.fds.Fd.{Fd}
use Rattle.nv_mirror.specs.declared.answers.Refusal as mirror
use Rattle.nv_mirror.specs.declared.answers.Refusal.TheVariants as why
use Rattle.nv_trace.specs.Shape.{IsWellFormed}
use Rattle.nv_trace.specs.Traced.{Traced, lines_in}
use Rattle.nv_trace.specs.declared.report.Refusal.{Refusal}
use Rattle.nv_trace.specs.declared.report.Refusal.TheVariants.{BadDescriptor, TooFar, TooLong, Stopped, Spent, Again, RegionFault, StoreFault}
use Rattle.nv_trace.specs.declared.trace.Descriptor.{Descriptor}
use Rattle.nv_trace.specs.declared.trace_call.TracedCall.{TracedCall}
use Rattle.nv_runner.specs.Entries.{entries_of_calls, entries_taken}
use Rattle.nv_runner.specs.declared.plan.Plan.{Plan}
use Rattle.nv_runner.specs.declared.shown.Shown.{Shown}
use Rattle.nv_runner.specs.declared.sorted.SortedCalls.{SortedCalls}
use Rattle.nv_runner.specs.DrawnNumbers.{DrewInARow}
use Rattle.nv_runner.specs.EndedRuns.{HasOutcome, IsClosedBy}
use Rattle.nv_runner.specs.Faithful.{Basis, IsFaithful, descriptors_in, drawing_calls, files_shown, history_of, named, open_calls_of}
use Rattle.nv_runner.specs.Reports.{Report, ShownRefusal}
use Rattle.nv_runner.specs.Sorted.{RefusedCall, opened_call, placed_call, refused_call}

-- ---- the mount of a run

-- a descriptor of a mount
abbrev pub as_fd : Descriptor → Fd
as_fd descriptor = record { file = descriptor.file; mode = descriptor.mode }

-- The mount was opened from this basis, with the descriptors of the trace.
pub record IsMountOf (basis : Basis) (trace : Traced) (opened : Opened) (fds : List Fd) : Type 0 where
  pub page : basis.sizes.page ≡ opened.sizes.page
  pub entries : basis.sizes.entries ≡ opened.sizes.entries
  pub pages : basis.sizes.pages ≡ opened.sizes.pages
  pub next : basis.next ≡ opened.next
  pub names : length basis.names ≡ opened.sizes.files
  pub fds_are : fds ≡ map as_fd (descriptors_in basis.names trace)
  pub files : Opens (mount_of opened) basis.files
  pub log : OpensLog (mount_of opened) opened.next

-- ---- refusals

-- A refusal as a report shows it. No call of a run is refused since a lock was held, or since another write drew its numbers.
abbrev pub shown_refusal : mirror.Refusal → Option Refusal
shown_refusal why.BadFd = Some BadDescriptor
shown_refusal why.TooFar = Some TooFar
shown_refusal why.TooLong = Some TooLong
shown_refusal (why.Busy cell) = None
shown_refusal why.Stopped = Some Stopped
shown_refusal (why.Spent found) = Some (Spent found)
shown_refusal (why.Again head tail) = Some (Again head tail)
shown_refusal (why.Raced seen found) = None
shown_refusal why.RegionFault = Some RegionFault
shown_refusal why.StoreFault = Some StoreFault

abbrev pub shown_as : TracedCall → Option Refusal → List ShownRefusal
shown_as call None = []
shown_as call (Some refusal) = record { call = call; refusal = refusal } ∷ []

-- a refused call, where its refusal is shown
abbrev pub shown_one : RefusedCall → List ShownRefusal
shown_one refused = shown_as refused.call (shown_refusal refused.refusal)

-- some of them, in their order
abbrev pub shown_refusals : List RefusedCall → List ShownRefusal
shown_refusals refused = flat_map shown_one refused

-- without where the call lies in memory
abbrev pub shown_call : Shown → ShownRefusal
shown_call shown = record { call = shown.call.now; refusal = shown.refusal }

-- ---- the report

-- A report shows the sorted calls of a run: those that have a place, those that were refused, those left open, whatever became of them, and the files after the history and then the kept ones.
pub record ShowsCalls (basis : Basis) (trace : Traced) (sorted : SortedCalls) (report : Report) : Type 0 where
  pub history : report.history ≡ map placed_call sorted.placed.items
  pub refused : report.refused ≡ shown_refusals (map refused_call sorted.refused.items)
  pub open_calls : open_calls_of report ≡ map (λ o. o.call) (map opened_call sorted.open_calls.items)
  pub files : report.files ≡ named basis.names (files_shown basis trace report)

-- ---- faithful

-- A report that shows the sorted calls of a run of a trace that was brought to its end, over a new mount of its basis that was closed then, is faithful. Devices have failed where a pass has seen STOP set.
abbrev pub RunsAreFaithful : Type 0
RunsAreFaithful =
    (basis : Basis) (trace : Traced) (fds : List Fd) (plan : Plan) (start zero : PassState) (sorted : SortedCalls) (part_values store_values : List Value) (parts : List PartHistory)
    (stores : List StoreHistory) (faults placed tail : ℕ) (report : Report)
    → IsWellFormed trace → length trace.calls < 2 ^ 60 → IsStrictlyIncreasing (lines_in trace) → IsMountOf basis trace start.view.opened fds → start.view ≡ first_view start.view.opened
    → HasOutcome fds plan trace.calls start (Ok sorted) zero → IsClosedBy zero part_values store_values parts stores faults placed tail
    → ShowsCalls basis trace sorted report → IsFaithful (SawStop zero.view) plan.worker basis trace report

-- The calls of such a report that drew numbers did so in a row, from the basis' next one on; and each of those that were left open drew the number that its answer told.
abbrev pub RunsAreNumbered : Type 0
RunsAreNumbered =
    (basis : Basis) (trace : Traced) (fds : List Fd) (plan : Plan) (start zero : PassState) (sorted : SortedCalls) (report : Report)
    → IsMountOf basis trace start.view.opened fds → HasOutcome fds plan trace.calls start (Ok sorted) zero → ShowsCalls basis trace sorted report
    → (drew : DrewInARow (entries_taken basis.sizes.page) basis.next (drawing_calls report))
    × All (λ o. IsOneOf drew.drawn (record { call = o.call; number = o.number })) (map opened_call sorted.open_calls.items)

-- Where the log was left empty it goes on with the number that came first, and the entries of the calls of such a report that drew some.
abbrev pub EmptiedLogsGoOn : Type 0
EmptiedLogsGoOn =
    (basis : Basis) (trace : Traced) (fds : List Fd) (plan : Plan) (start zero : PassState) (sorted : SortedCalls) (part_values store_values : List Value) (parts : List PartHistory)
    (stores : List StoreHistory) (faults placed tail : ℕ) (report : Report)
    → IsMountOf basis trace start.view.opened fds → HasOutcome fds plan trace.calls start (Ok sorted) zero → IsClosedBy zero part_values store_values parts stores faults placed tail
    → ShowsCalls basis trace sorted report → HasEmptiedLog zero.view → tail ≡ basis.next + entries_of_calls basis.sizes.page (drawing_calls report)

-- The files after the history that such a report shows are those that the mount's stores have then.
abbrev pub FilesAreOfTheHistory : Type 0
FilesAreOfTheHistory =
    (basis : Basis) (trace : Traced) (fds : List Fd) (plan : Plan) (start zero : PassState) (sorted : SortedCalls) (part_values store_values : List Value) (parts : List PartHistory)
    (stores : List StoreHistory) (faults placed tail : ℕ)
    → IsWellFormed trace → IsStrictlyIncreasing (lines_in trace) → IsMountOf basis trace start.view.opened fds → start.view ≡ first_view start.view.opened
    → HasOutcome fds plan trace.calls start (Ok sorted) zero → IsClosedBy zero part_values store_values parts stores faults placed tail
    → after (history_of (descriptors_in basis.names trace) (map placed_call sorted.placed.items)) basis.files ≡ files_then zero.view basis.files

-- ---- STOP

-- A run that isn't to be stopped, and was brought to its end, left the log empty with STOP at 0: so no pass has seen it set, and no call was left open.
abbrev pub UnstoppedRunsLeaveNothingOpen : Type 0
UnstoppedRunsLeaveNothingOpen =
    (fds : List Fd) (plan : Plan) (calls : List TracedCall) (start zero : PassState) (sorted : SortedCalls)
    → IsMount (mount_of zero.view.opened) → IsRunOf zero.view.opened zero.view.run → HasOutcome fds plan calls start (Ok sorted) zero → is_none plan.stop ≡ true
    → (SawStop zero.view → ⊥) × (sorted.open_calls.items ≡ [])
