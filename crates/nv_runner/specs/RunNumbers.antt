-- Run numbers: the numbers that the calls of a whole run drew.
use Rattle.std.specs.Prelude.{◌≡◌, ℕ, List, Option}
use Rattle.nv_core.specs.state.Passes.{IsOneOf}
use Rattle.nv_core.specs.state.Words.{Sizes}
use Rattle.nv_core.specs.steps.Opening.{IsMount}
use Rattle.nv_core.specs.invariant.Draws.{drawn_of}
use Rattle.nv_table.specs.state.Opened.{mount_of}
use Rattle.nv_table.specs.state.States.{PassState}
use Rattle.nv_table.specs.state.Views.{AreDistinctNumbers, numbers, pass_of}
use Rattle.nv_mount.specs.declared.fds.Fd.{Fd}
use Rattle.nv_trace.specs.declared.trace_call.TracedCall.{TracedCall}
use Rattle.nv_runner.specs.Entries.{entries_taken}
use Rattle.nv_runner.specs.declared.answer.Answer.TheVariants.{Open}
use Rattle.nv_runner.specs.DrawnNumbers.{DrewInARow}
use Rattle.nv_runner.specs.Histories.{RoundsRise}
use Rattle.nv_runner.specs.Lists.{MadeCall, calls_made}
use Rattle.nv_runner.specs.RunRefusals.{IsRunOfPasses, calls_that_drew}
use Rattle.nv_runner.specs.Shifts.{HasRun}

-- The calls that drew their entries did so in a row, from this number on; and a call that was left open was answered with the number that it drew.
pub record HaveDrawn (sizes : Sizes) (next : ℕ) (made : List MadeCall) : Type 0 where
  pub drew : DrewInARow (entries_taken sizes.page) next (calls_that_drew made)
  pub told : (call : TracedCall) (number : ℕ) → IsOneOf made (record { call = call; answer = Open number }) → IsOneOf drew.drawn (record { call = call; number = number })

-- So have those of each run in which pass 0 drew nothing.
abbrev pub RunsDrawInARow : Type 0
RunsDrawInARow =
    (fds : List Fd) (worker : Option ℕ) (made : List MadeCall) (zero : PassState) → HasRun fds worker made zero
    → IsMount (mount_of zero.view.opened) → IsRunOfPasses zero.view → AreDistinctNumbers (numbers zero.view.ended) → drawn_of zero.view.opened.sizes (pass_of zero.view) ≡ 0
    → RoundsRise (calls_made made) → HaveDrawn zero.view.opened.sizes zero.view.opened.next made
