-- The pass stands so behind the write.
use Rattle.std.specs.Prelude.{◌≡◌}
use Rattle.nv_table.specs.state.Views.{pass_of}
use Rattle.nv_table.specs.steps.SeatSteps.{pass_worked}
use Rattle.nv_clean.specs.Cleaning.{calls_refusal, control_of, refusal_behind}
use Rattle.nv_clean.proofs.batch.CleanMachine.return_first.Given as goal

abbrev pub ghosts-step_behind : goal.ghosts-step_behind
ghosts-step_behind g a = record { said = λ works. ((pass_worked a.pass.now.view.opened.sizes works (pass_of a.pass.now.view)).control ≡ control_of a.pass.now.view.opened.sizes a.self.now) × (calls_refusal works ≡ refusal_behind a.self.now.control) }
