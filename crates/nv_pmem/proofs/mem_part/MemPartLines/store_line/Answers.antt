use Rattle.nv_pmem.proofs.StepLaws.{did_some_none, did_some_all}
use Rattle.nv_pmem.proofs.mem_part.MemPartLines.store_line.Goals as goal

pub returns-in_err-begin-clause-begun : goal.returns-in_err-begin-clause-begun
returns-in_err-begin-clause-begun c = did_some_none

pub returns-clause-begun : goal.returns-clause-begun
returns-clause-begun c = did_some_all (record { states = c.store_line.ensures.history })
