-- By the passes, and the order in which their calls are listed.
use Rattle.nv_runner.proofs.KeptRunLaws.{left_open_are_kept}
use Rattle.nv_runner.proofs.OpenRunLaws.{open_in_run}
use Rattle.nv_runner.proofs.laws.open_calls_are_the_faults.Goals as goal

pub returns-clause-faults : goal.returns-clause-faults
returns-clause-faults c = open_in_run

pub returns-clause-kept : goal.returns-clause-kept
returns-clause-kept c = left_open_are_kept
