-- Sorted out: what the calls of a schedule, sorted out, tell of the history of its mount.
use Rattle.std.specs.Prelude.{◌≡◌, ℕ, List, map, All, Ok}
use Rattle.nv_plain.specs.Files.{Files}
use Rattle.nv_plain.specs.Histories.{IsLegal, after}
use Rattle.nv_plain.specs.declared.call.FileCall.{FileCall}
use Rattle.nv_core.specs.content.Content.{Opens}
use Rattle.nv_core.specs.log.LogContent.{OpensLog}
use Rattle.nv_core.specs.state.Values.{Value}
use Rattle.nv_pmem.specs.Steps.{PartHistory}
use Rattle.nv_store.specs.Steps.{StoreHistory}
use Rattle.nv_table.specs.state.Opened.{mount_of}
use Rattle.nv_table.specs.state.States.{PassState}
use Rattle.nv_mount.specs.ClosedAtRest.{files_then}
use Rattle.nv_mount.specs.Mounts.{MountState}
use Rattle.nv_mount.specs.WholeRuns.{history_then}
use Rattle.nv_runner.specs.EndedRuns.{IsClosedBy}
use Rattle.nv_runner.specs.Histories.{CallsOnFiles, history_of_threads}
use Rattle.nv_runner.specs.Lists.{made_calls}
use Rattle.nv_runner.specs.Rounds.{AreInLineOrder}
use Rattle.nv_runner.specs.Sorted.{AreSortedOut, placed_call}
use Rattle.nv_runner.specs.Told.{AreTold}
use Rattle.nv_runner.specs.declared.sorted.SortedCalls.{SortedCalls}
use Rattle.nv_trace.specs.declared.token.Token.{Token}
use Rattle.nv_trace.specs.declared.trace_call.TraceCall.{TraceCall}
use Rattle.nv_trace.specs.declared.trace_call.TracedCall.{TracedCall}
use Rattle.nv_schedule.specs.Begun.{listed_calls}
use Rattle.nv_schedule.specs.Scheduled.{AreCallsOf, HasFollowed}
use Rattle.nv_schedule.specs.Turns.{CallerState}
use Rattle.nv_schedule.specs.declared.scheduled.ScheduledCalls.{ScheduledCalls}

-- Some calls are all of one round, as those of a trace are that has no rounds.
abbrev pub AreOfOneRound : List TracedCall → Type 0
AreOfOneRound calls = (round : ℕ) × All (λ call. call.round ≡ round) calls

-- The calls that a schedule of a trace without rounds lists, sorted out, are told: those that have a place are the one history of the mount, entry for entry, in an order that keeps each thread's lines; each
-- of them is one of these, of the refused ones or of the open ones, once; and these stand in the order of their lines.
abbrev pub SchedulesAreTold : Type 0
SchedulesAreTold =
    (mount : MountState) (tokens : List Token) (calls : List TracedCall) (batch : ℕ) (then_ : List CallerState) (zero : PassState) (told : ScheduledCalls) (sorted : SortedCalls)
    (part_values store_values : List Value) (parts : List PartHistory) (stores : List StoreHistory) (faults placed tail : ℕ)
    → HasFollowed mount tokens calls batch (Ok tt) then_ zero → AreCallsOf then_ told → IsClosedBy zero part_values store_values parts stores faults placed tail
    → AreInLineOrder calls → AreOfOneRound calls → AreSortedOut (made_calls told.answered.items) sorted
    → AreTold mount.fds (listed_calls told) sorted (history_then zero.view)

-- As a history of the threads it is legal from the files that the mount opened, and leaves the files that its stores have after it. The descriptors of a trace may say which files its calls are on.
abbrev pub SchedulesAreLegal : Type 0
SchedulesAreLegal =
    (mount : MountState) (tokens : List Token) (calls : List TracedCall) (batch : ℕ) (then_ : List CallerState) (zero : PassState) (told : ScheduledCalls) (sorted : SortedCalls)
    (part_values store_values : List Value) (parts : List PartHistory) (stores : List StoreHistory) (faults placed tail : ℕ)
    → HasFollowed mount tokens calls batch (Ok tt) then_ zero → AreCallsOf then_ told → IsClosedBy zero part_values store_values parts stores faults placed tail
    → AreInLineOrder calls → AreOfOneRound calls → AreSortedOut (made_calls told.answered.items) sorted
    → (on_file : TraceCall → FileCall) → CallsOnFiles mount.fds on_file → (files : Files) (next : ℕ) → OpensLog (mount_of zero.view.opened) next → Opens (mount_of zero.view.opened) files
    → IsLegal (history_of_threads on_file (map placed_call sorted.placed.items)) files × (after (history_of_threads on_file (map placed_call sorted.placed.items)) files ≡ files_then zero.view files)
