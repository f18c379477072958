use Rattle.std.proofs.Common.{◌+◌, arith}
use Rattle.nv_pmem.specs.Steps.{durable_store}
use Rattle.nv_pmem.proofs.StepLaws.{did_did, did_did_some, did_some_all, did_some_front}
use Rattle.nv_header.specs.HeaderSteps.{add_file_steps}
use Rattle.nv_header.proofs.InRow.{stays_settled, stays_stays}
use Rattle.nv_header.proofs.VersionLaws.{sizes}
use Rattle.nv_header.proofs.adding.store_name.Goals as goal

pub store_durably-requires-clause-line : goal.store_durably-requires-clause-line
store_durably-requires-clause-line g c =
    omega (arith, c.requires.room.there, c.store_record.ensures.lines, (sizes c.args.version).first, (sizes c.args.version).names)

pub store_durably-requires-clause-spare : goal.store_durably-requires-clause-spare
store_durably-requires-clause-spare g c =
    omega (arith, c.in_ok-store_record.ensures.room.spare 0 (c.requires.room.spare 0 (omega (arith, (sizes c.args.version).first, (sizes c.args.version).names))))

pub returns-in_err-store_record-clause-begun : goal.returns-in_err-store_record-clause-begun
unfolding add_file_steps
returns-in_err-store_record-clause-begun g c = did_some_front (durable_store 0 4 (c.args.index + 1)) c.store_record.ensures.begun

pub returns-in_err-store_durably-clause-begun : goal.returns-in_err-store_durably-clause-begun
unfolding add_file_steps
returns-in_err-store_durably-clause-begun g c = did_did_some c.in_ok-store_record.ensures.done c.store_durably.ensures.begun

pub returns-clause-done : goal.returns-clause-done
unfolding add_file_steps
returns-clause-done g c = did_did c.in_ok-store_record.ensures.done c.in_ok-store_durably.ensures.done

pub returns-clause-begun : goal.returns-clause-begun
returns-clause-begun g c = did_some_all (returns-clause-done g c)

pub returns-clause-room : goal.returns-clause-room
returns-clause-room g c =
    stays_stays c.in_ok-store_record.ensures.room (stays_settled 1 0 c.store_durably.ensures.room c.in_ok-store_durably.ensures.settled)
