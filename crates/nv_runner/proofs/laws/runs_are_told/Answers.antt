-- From the run and the close.
use Rattle.nv_runner.proofs.ToldLaws.{runs_are_told}
use Rattle.nv_runner.proofs.laws.runs_are_told.Goals as goal

pub returns : goal.returns
returns c = runs_are_told
