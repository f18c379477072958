use Rattle.nv_pmem.proofs.StepLaws.{did_one}
use Rattle.nv_store.proofs.mem_store.MemStoreBacking.sync.Goals as goal

pub returns-clause-done : goal.returns-clause-done
returns-clause-done c = did_one c.sync.ensures
