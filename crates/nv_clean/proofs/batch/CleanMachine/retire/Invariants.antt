-- What is said of the device calls is how they ended, and where the pass stands behind them.
use Rattle.std.specs.Prelude.{◌≡◌, Some}
use Rattle.nv_core.specs.state.Cleaner as cleaner
use Rattle.nv_core.specs.state.Passes.{Cleaning}
use Rattle.nv_table.specs.state.Views.{pass_of}
use Rattle.nv_table.specs.steps.SeatSteps.{pass_worked}
use Rattle.nv_clean.specs.Cleaning.{calls_refusal, control_of, refusal_behind}
use Rattle.nv_clean.proofs.batch.CleanMachine.retire.Given as goal

abbrev pub ghosts-stop_behind : goal.ghosts-stop_behind
ghosts-stop_behind g a =
    record {
      said = λ works. ((pass_worked a.pass.now.view.opened.sizes works (pass_of a.pass.now.view)).control ≡ Cleaning a.self.now.batch (cleaner.SetStop a.held)) × (calls_refusal works ≡ Some a.refusal);
    }

abbrev pub ghosts-step_behind : goal.ghosts-step_behind
ghosts-step_behind g a =
    record {
      said = λ works. ((pass_worked a.pass.now.view.opened.sizes works (pass_of a.pass.now.view)).control ≡ control_of a.pass.now.view.opened.sizes a.self.now) × (calls_refusal works ≡ refusal_behind a.self.now.control);
    }
