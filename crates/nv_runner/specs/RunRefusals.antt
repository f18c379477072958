-- Run refusals: how far HEAD, TAIL and ORDER had come where a call of a whole run was refused.
use Rattle.std.specs.Prelude.{◌≡◌, ◌≢◌, ℕ, ◌+◌, ◌≤◌, List, [], length, map, filter, Option, None}
use Rattle.nv_core.specs.state.Passes.{IsOneOf}
use Rattle.nv_core.specs.state.Words.{ORDER, HEAD, TAIL}
use Rattle.nv_core.specs.steps.Events.{own}
use Rattle.nv_core.specs.steps.Opening.{IsMount}
use Rattle.nv_core.specs.invariant.Draws.{drawn_of}
use Rattle.nv_core.specs.invariant.OneHistory.{IsPrefix}
use Rattle.nv_table.specs.state.Opened.{IsRunOf, mount_of}
use Rattle.nv_table.specs.state.States.{PassState}
use Rattle.nv_table.specs.state.Views.{AreDistinctNumbers, Past, PassView, SeesAll, numbers, pass_of}
use Rattle.nv_mount.specs.LoneWords.{word_then}
use Rattle.nv_mount.specs.RisenCounts.{SawStop}
use Rattle.nv_mount.specs.WholeRuns.{history_then}
use Rattle.nv_mount.specs.declared.fds.Fd.{Fd}
use Rattle.nv_mirror.specs.declared.answers.Refusal.{Refusal}
use Rattle.nv_calls.specs.histories.Heeds.{HasSeenStop}
use Rattle.nv_trace.specs.declared.trace_call.TracedCall.{TracedCall}
use Rattle.nv_runner.specs.declared.answer.Answer.TheVariants.{Refused}
use Rattle.nv_runner.specs.Entries.{entries_of_calls}
use Rattle.nv_runner.specs.Faithful.{not_later}
use Rattle.nv_runner.specs.Histories.{RoundsRise}
use Rattle.nv_runner.specs.Lists.{MadeCall, calls_made}
use Rattle.nv_runner.specs.Refusals.{HasCause, word_seen}
use Rattle.nv_runner.specs.Runs.{CleansNothing, has_drawn}
use Rattle.nv_runner.specs.Shifts.{HasRun}

-- ---- the run

-- What pass 0 has seen is a run of itself and of those that it took in: these lie in it with all their events, and nobody else has any.
pub record IsRunOfPasses (view : PassView) : Type 0 where
  pub is_run : IsRunOf view.opened view.run
  pub joined : (past : Past) → IsOneOf view.ended past → SeesAll past.number past.run view.run
  pub others : (number : ℕ) → number ≢ view.number → ((past : Past) → IsOneOf view.ended past → past.number ≢ number) → own number view.run ≡ []

-- ---- what was drawn

-- the calls of a run that drew their entries
abbrev pub calls_that_drew : List MadeCall → List TracedCall
calls_that_drew made = map (λ m. m.call) (filter (λ m. has_drawn m.answer) made)

-- ---- refusals

-- A call of a run was refused, by such a cause. Its pass had seen HEAD no higher than the first number and what the calls drew that don't come later than it; ORDER no higher than there are placed
-- calls; and TAIL as it was at opening, where no batch may be run, if this holds. The run went on behind what it had seen.
pub record IsRefusedWhile (uncleaned : Type 0) (fds : List Fd) (worker : Option ℕ) (made : List MadeCall) (zero : PassState) (call : TracedCall) (refusal : Refusal) : Type 0 where
  pub now : PassState
  pub opened : now.view.opened ≡ zero.view.opened
  pub cause : HasCause fds worker call.call now refusal
  pub seen : HasSeenStop now → SawStop zero.view
  pub order : word_seen now ORDER ≤ length (history_then zero.view)
  pub head : word_seen now HEAD ≤ zero.view.opened.next + entries_of_calls zero.view.opened.sizes.page (not_later call (calls_that_drew made))
  pub tail : worker ≡ None → uncleaned → word_seen now TAIL ≡ zero.view.opened.next
  pub behind : IsPrefix now.view.run zero.view.run

-- While a run goes on pass 0 has run no batch.
abbrev pub IsRefusedInRun : List Fd → (worker : Option ℕ) → List MadeCall → (zero : PassState) → TracedCall → Refusal → Type 0
IsRefusedInRun fds worker made zero call refusal = IsRefusedWhile (CleansNothing zero.view.number zero.view.run) fds worker made zero call refusal

-- So is each of a run in which pass 0 drew nothing.
abbrev pub RefusalsInRunsHaveCauses : Type 0
RefusalsInRunsHaveCauses =
    (fds : List Fd) (worker : Option ℕ) (made : List MadeCall) (zero : PassState) (run : HasRun fds worker made zero)
    → IsMount (mount_of zero.view.opened) → IsRunOfPasses zero.view → drawn_of zero.view.opened.sizes (pass_of zero.view) ≡ 0
    → RoundsRise (calls_made made)
    → (call : TracedCall) (refusal : Refusal) → IsOneOf made (record { call = call; answer = Refused refusal }) → IsRefusedInRun fds worker made zero call refusal

-- ---- HEAD

-- HEAD is the number that came next at opening and the entries of the calls of a run that drew some, where pass 0 drew nothing.
abbrev pub HeadsCountCalls : Type 0
HeadsCountCalls =
    (fds : List Fd) (worker : Option ℕ) (made : List MadeCall) (zero : PassState) (run : HasRun fds worker made zero)
    → IsMount (mount_of zero.view.opened) → IsRunOfPasses zero.view → AreDistinctNumbers (numbers zero.view.ended) → drawn_of zero.view.opened.sizes (pass_of zero.view) ≡ 0
    → word_then zero.view HEAD ≡ zero.view.opened.next + entries_of_calls zero.view.opened.sizes.page (calls_that_drew made)

-- ---- room

-- And where no batch may be run, and pass 0 has run none, the calls of a run have drawn no more than the log has entries.
abbrev pub DrawsHaveRoom : Type 0
DrawsHaveRoom =
    (fds : List Fd) (worker : Option ℕ) (made : List MadeCall) (zero : PassState) (run : HasRun fds worker made zero)
    → IsMount (mount_of zero.view.opened) → IsRunOfPasses zero.view → AreDistinctNumbers (numbers zero.view.ended)
    → worker ≡ None → CleansNothing zero.view.number zero.view.run → entries_of_calls zero.view.opened.sizes.page (calls_that_drew made) ≤ zero.view.opened.sizes.entries
