-- The pass stands so behind the call that failed.
use Rattle.std.specs.Prelude.{◌≡◌, Some}
use Rattle.nv_core.specs.state.Cleaner as cleaner
use Rattle.nv_core.specs.state.Passes.{Cleaning}
use Rattle.nv_table.specs.state.Views.{pass_of}
use Rattle.nv_table.specs.steps.SeatSteps.{pass_worked}
use Rattle.nv_clean.specs.Cleaning.{calls_refusal}
use Rattle.nv_clean.proofs.batch.CleanMachine.fail.Given as goal

abbrev pub ghosts-stop_behind : goal.ghosts-stop_behind
ghosts-stop_behind g a = record { said = λ works. ((pass_worked a.pass.now.view.opened.sizes works (pass_of a.pass.now.view)).control ≡ Cleaning a.self.now.batch (cleaner.SetStop a.held)) × (calls_refusal works ≡ Some a.refusal) }
