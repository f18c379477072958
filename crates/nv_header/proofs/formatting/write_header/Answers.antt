use Rattle.nv_plain.specs.Images.{header_magic}
use Rattle.nv_pmem.specs.Steps.{durable_store}
use Rattle.nv_pmem.proofs.StepLaws.{did_did, did_did_some, did_some_all, did_some_front}
use Rattle.nv_header.specs.HeaderSteps.{blank_header_steps}
use Rattle.nv_header.proofs.formatting.write_header.Goals as goal

pub returns-in_err-write_fields-clause-begun : goal.returns-in_err-write_fields-clause-begun
unfolding blank_header_steps
returns-in_err-write_fields-clause-begun g c = did_some_front (durable_store 0 0 header_magic) c.write_fields.ensures.begun

pub returns-in_err-store_durably-clause-begun : goal.returns-in_err-store_durably-clause-begun
unfolding blank_header_steps
returns-in_err-store_durably-clause-begun g c = did_did_some c.in_ok-write_fields.ensures.done c.store_durably.ensures.begun

pub returns-clause-done : goal.returns-clause-done
unfolding blank_header_steps
returns-clause-done g c = did_did c.in_ok-write_fields.ensures.done c.in_ok-store_durably.ensures.done

pub returns-clause-begun : goal.returns-clause-begun
returns-clause-begun g c = did_some_all (returns-clause-done g c)
