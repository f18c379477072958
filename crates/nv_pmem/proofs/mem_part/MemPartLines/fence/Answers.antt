use Rattle.nv_pmem.proofs.StepLaws.{did_some_none, did_some_all, did_one}
use Rattle.nv_pmem.proofs.mem_part.MemPartLines.fence.Goals as goal

pub returns-in_err-begin-clause-begun : goal.returns-in_err-begin-clause-begun
returns-in_err-begin-clause-begun c = did_some_none

pub returns-clause-begun : goal.returns-clause-begun
returns-clause-begun c = did_some_all (did_one c.fence.ensures.history)

pub returns-clause-done : goal.returns-clause-done
returns-clause-done c = did_one c.fence.ensures.history
