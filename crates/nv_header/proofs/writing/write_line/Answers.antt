use Rattle.nv_pmem.proofs.StepLaws.{did_did, did_did_some, did_some_all}
use Rattle.nv_header.proofs.writing.write_line.Goals as goal

pub returns-in_err-flush-clause-begun : goal.returns-in_err-flush-clause-begun
returns-in_err-flush-clause-begun g c = did_did_some c.in_ok-store_line.ensures.done c.flush.ensures.begun

pub returns-clause-done : goal.returns-clause-done
returns-clause-done g c = did_did c.in_ok-store_line.ensures.done c.in_ok-flush.ensures.done

pub returns-clause-begun : goal.returns-clause-begun
returns-clause-begun g c = did_some_all (returns-clause-done g c)
