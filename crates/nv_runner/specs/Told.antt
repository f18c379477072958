-- Told: what the sorted calls of a run tell of the history of its mount.
use Rattle.std.specs.Prelude.{◌≡◌, ℕ, List, ◌++◌, map, IsPermutation, All, Result, Ok}
use Rattle.std.specs.List.Sorted.{IsNonDecreasingBy, IsStrictlyIncreasing}
use Rattle.nv_plain.specs.Histories.{Answered}
use Rattle.nv_core.specs.state.Values.{Value}
use Rattle.nv_pmem.specs.Steps.{PartHistory}
use Rattle.nv_store.specs.Steps.{StoreHistory}
use Rattle.nv_table.specs.state.States.{PassState}
use Rattle.nv_table.specs.state.Views.{first_view, pass_of}
use Rattle.nv_mount.specs.WholeRuns.{history_then}
use Rattle.nv_mount.specs.declared.fds.Fd.{Fd}
use Rattle.nv_trace.specs.declared.trace.Descriptor.{Descriptor}
use Rattle.nv_trace.specs.declared.trace_call.TracedCall.{TracedCall}
use Rattle.nv_runner.specs.declared.plan.Plan.{Plan}
use Rattle.nv_runner.specs.declared.run_error.RunError.{RunError}
use Rattle.nv_runner.specs.declared.sorted.SortedCalls.{SortedCalls}
use Rattle.nv_runner.specs.EndedRuns.{HasOutcome, IsClosedBy}
use Rattle.nv_runner.specs.Faithful.{file_call}
use Rattle.nv_runner.specs.Histories.{AreHistory, CallsOnFiles}
use Rattle.nv_runner.specs.Lists.{Stand}
use Rattle.nv_runner.specs.Sorted.{opened_call, placed_call, refused_call}

-- Some calls were sorted out: the placed ones are the history, each call is one of these, of the refused ones or of those left open, once, and the refused ones and those left open stand in the order of
-- their lines.
pub record AreTold (fds : List Fd) (calls : List TracedCall) (sorted : SortedCalls) (history : List Answered) : Type 0 where
  pub placed : AreHistory fds (map placed_call sorted.placed.items) history
  pub listed : IsPermutation calls
      (map (λ p. p.call) (map placed_call sorted.placed.items) ++ map (λ r. r.call) (map refused_call sorted.refused.items) ++ map (λ o. o.call) (map opened_call sorted.open_calls.items))
  pub in_lines : IsStrictlyIncreasing (map (λ r. r.call.line) (map refused_call sorted.refused.items))
  pub open_in_lines : IsStrictlyIncreasing (map (λ o. o.call.line) (map opened_call sorted.open_calls.items))

-- So are the calls of a trace, whose lines rise and whose rounds don't fall, where a run of it over a new mount was brought to its end, and the mount closed.
abbrev pub RunsAreTold : Type 0
RunsAreTold =
    (fds : List Fd) (plan : Plan) (calls : List TracedCall) (start zero : PassState) (sorted : SortedCalls) (part_values store_values : List Value) (parts : List PartHistory)
    (stores : List StoreHistory) (faults placed tail : ℕ)
    → start.view ≡ first_view start.view.opened → HasOutcome fds plan calls start (Ok sorted) zero → IsClosedBy zero part_values store_values parts stores faults placed tail
    → IsStrictlyIncreasing (map (λ call. call.line) calls) → IsNonDecreasingBy (λ call. call.round) calls
    → AreTold fds calls sorted (history_then zero.view)

-- Descriptors of a trace that have the files of the mount's descriptors, each under its number, say the files of its calls.
abbrev pub DescriptorsSayFiles : Type 0
DescriptorsSayFiles =
    (fds : List Fd) (descriptors : List Descriptor) → map (λ fd. fd.file) fds ≡ map (λ descriptor. descriptor.file) descriptors → CallsOnFiles fds (file_call descriptors)

-- ---- what a call's pass had seen

-- The calls of each shift of a run stand in the mount's one history one behind the other, each behind all that its pass had seen before it was made: of those of its own thread, and of all of earlier rounds.
abbrev pub ShiftsStand : Type 0
ShiftsStand =
    (fds : List Fd) (plan : Plan) (calls : List TracedCall) (start zero : PassState) (outcome : Result SortedCalls RunError) (part_values store_values : List Value) (parts : List PartHistory)
    (stores : List StoreHistory) (faults placed tail : ℕ)
    → (out : HasOutcome fds plan calls start outcome zero) → IsClosedBy zero part_values store_values parts stores faults placed tail
    → All (λ shift. Stand fds shift.start.view.number (pass_of shift.start.view).seen shift.made (history_then zero.view)) out.run_out.run.shifts
