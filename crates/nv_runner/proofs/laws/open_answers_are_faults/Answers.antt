-- By the calls, the first of them first.
use Rattle.nv_runner.proofs.OpenLaws.{kept_are_open, open_are_faults}
use Rattle.nv_runner.proofs.laws.open_answers_are_faults.Goals as goal

pub returns : goal.returns
returns c = record { faults = open_are_faults; kept = kept_are_open }
