use Rattle.std.proofs.Common.{[], ◌∷◌}
use Rattle.nv_pmem.specs.Steps.{Fence}
use Rattle.nv_pmem.proofs.StepLaws.{did_did, did_did_some, did_some_all, did_some_front}
use Rattle.nv_header.specs.HeaderSteps.{records_steps}
use Rattle.nv_header.proofs.NotedLaws.{stays_noted}
use Rattle.nv_header.proofs.migrating.store_records.Goals as goal

pub returns-in_err-write_records-clause-begun : goal.returns-in_err-write_records-clause-begun
unfolding records_steps
returns-in_err-write_records-clause-begun g c = did_some_front (Fence ∷ []) c.write_records.ensures.begun

pub returns-in_err-fence-clause-begun : goal.returns-in_err-fence-clause-begun
unfolding records_steps
returns-in_err-fence-clause-begun g c = did_did_some c.in_ok-write_records.ensures.done c.fence.ensures.begun

pub returns-clause-done : goal.returns-clause-done
unfolding records_steps
returns-clause-done g c = did_did c.in_ok-write_records.ensures.done c.in_ok-fence.ensures.done

pub returns-clause-begun : goal.returns-clause-begun
returns-clause-begun g c = did_some_all (returns-clause-done g c)

pub returns-clause-room : goal.returns-clause-room
returns-clause-room g c = stays_noted _ c.in_ok-write_records.ensures.room c.fence.ensures.room c.in_ok-fence.ensures.freed
