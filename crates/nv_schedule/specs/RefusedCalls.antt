-- Refused calls: why a schedule has refused a call, and how far HEAD, TAIL and ORDER had come then.
use Rattle.std.specs.Prelude.{◌≡◌, ℕ, ◌+◌, ◌≤◌, List, length, None, Ok}
use Rattle.nv_plain.specs.declared.call.Reply.{Reply}
use Rattle.nv_core.specs.state.Passes.{IsOneOf}
use Rattle.nv_core.specs.state.Values.{Value}
use Rattle.nv_core.specs.state.Words.{ORDER, HEAD, TAIL}
use Rattle.nv_core.specs.steps.Opening.{IsMount}
use Rattle.nv_pmem.specs.Steps.{PartHistory}
use Rattle.nv_store.specs.Steps.{StoreHistory}
use Rattle.nv_table.specs.state.Opened.{mount_of}
use Rattle.nv_table.specs.state.States.{PassState}
use Rattle.nv_mount.specs.LoneWords.{word_then}
use Rattle.nv_mount.specs.Mounts.{MountState}
use Rattle.nv_mount.specs.RisenCounts.{SawStop}
use Rattle.nv_mount.specs.WholeRuns.{history_then}
use Rattle.nv_mount.specs.declared.fds.Fd.{Fd}
use Rattle.nv_mirror.specs.declared.answers.Refusal.{Refusal}
use Rattle.nv_calls.specs.histories.Heeds.{HasSeenStop}
use Rattle.nv_runner.specs.Entries.{entries_of_calls}
use Rattle.nv_runner.specs.declared.answer.Answer.TheVariants.{Placed, Refused}
use Rattle.nv_runner.specs.EndedRuns.{IsClosedBy}
use Rattle.nv_runner.specs.Faithful.{not_later}
use Rattle.nv_runner.specs.Lists.{MadeCall, made_calls}
use Rattle.nv_runner.specs.Refusals.{HasCause, early_of_call, word_seen}
use Rattle.nv_runner.specs.Rounds.{AreInLineOrder}
use Rattle.nv_runner.specs.RunRefusals.{calls_that_drew}
use Rattle.nv_trace.specs.declared.token.Token.{Token}
use Rattle.nv_trace.specs.declared.trace_call.TracedCall.{TracedCall}
use Rattle.nv_schedule.specs.Scheduled.{AreCallsOf, HasFollowed}
use Rattle.nv_schedule.specs.Turns.{CallerState}
use Rattle.nv_schedule.specs.SortedOut.{AreOfOneRound}
use Rattle.nv_schedule.specs.declared.scheduled.ScheduledCalls.{ScheduledCalls}

-- A call was refused by what bars it, or by such a cause; want of room may be one also where a cleaner is beside the threads. Its pass had seen STOP set only where the run has; ORDER no higher than there are
-- placed calls; HEAD no higher than the number that came next at opening and what the calls drew that don't come later than it; and TAIL no higher than it is at the end.
pub record IsRefusedThere (fds : List Fd) (listed : List MadeCall) (zero : PassState) (call : TracedCall) (refusal : Refusal) : Type 0 where
  pub now : PassState
  pub opened : now.view.opened ≡ zero.view.opened
  pub cause : HasCause fds None call.call now refusal
  pub seen : HasSeenStop now → SawStop zero.view
  pub order : word_seen now ORDER ≤ length (history_then zero.view)
  pub head : word_seen now HEAD ≤ zero.view.opened.next + entries_of_calls zero.view.opened.sizes.page (not_later call (calls_that_drew listed))
  pub tail : word_seen now TAIL ≤ word_then zero.view TAIL

-- So is each call that a schedule of a trace without rounds lists as refused.
abbrev pub RefusalsHaveCauses : Type 0
RefusalsHaveCauses =
    (mount : MountState) (tokens : List Token) (calls : List TracedCall) (batch : ℕ) (then_ : List CallerState) (zero : PassState) (told : ScheduledCalls) (part_values store_values : List Value) (parts : List PartHistory)
    (stores : List StoreHistory) (faults placed tail : ℕ)
    → IsMount (mount_of mount.board.opened) → zero.view.opened ≡ mount.board.opened → HasFollowed mount tokens calls batch (Ok tt) then_ zero → AreCallsOf then_ told
    → IsClosedBy zero part_values store_values parts stores faults placed tail → AreInLineOrder calls → AreOfOneRound calls
    → (call : TracedCall) (refusal : Refusal) → IsOneOf (made_calls told.answered.items) (record { call = call; answer = Refused refusal })
    → IsRefusedThere mount.fds (made_calls told.answered.items) zero call refusal

-- And nothing bars one that it lists as placed, whether or not that is over.
abbrev pub PlacedAreUnbarred : Type 0
PlacedAreUnbarred =
    (mount : MountState) (tokens : List Token) (calls : List TracedCall) (batch : ℕ) (then_ : List CallerState) (zero : PassState) (told : ScheduledCalls)
    → IsMount (mount_of mount.board.opened) → zero.view.opened ≡ mount.board.opened → HasFollowed mount tokens calls batch (Ok tt) then_ zero → AreCallsOf then_ told
    → (call : TracedCall) (place : ℕ) (reply : Reply) → IsOneOf (made_calls told.answered.items) (record { call = call; answer = Placed place reply })
    → early_of_call zero.view.opened.sizes mount.fds call.call ≡ None
