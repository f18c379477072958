use Rattle.nv_pmem.specs.Steps.{after_line_step}
use Rattle.nv_pmem.proofs.StepLaws.{did_untold, did_some_untold}
use Rattle.nv_pmem.proofs.file_part.FilePartLines.store_line.Goals as goal

pub returns-clause-begun : goal.returns-clause-begun
returns-clause-begun g c = did_some_untold after_line_step _

pub returns-clause-done : goal.returns-clause-done
returns-clause-done g c = did_untold after_line_step _
