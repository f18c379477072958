use Rattle.std.proofs.Common.{ℕ, subst, arith}
use Rattle.nv_plain.specs.Layouts.{version_2}
use Rattle.nv_pmem.specs.Steps.{DidLineStep, DidSome, durable_store}
use Rattle.nv_pmem.proofs.StepLaws.{did_did, did_did_some, did_some_all, did_some_front}
use Rattle.nv_header.specs.HeaderSteps.{version_2_steps}
use Rattle.nv_header.proofs.InRow.{stays_settled, stays_stays}
use Rattle.nv_header.proofs.migrating.store_version_2.Goals as goal

pub store_durably-requires-clause-line : goal.store_durably-requires-clause-line
store_durably-requires-clause-line g c = omega (arith, c.requires.room.there, c.store_records.ensures.lines)

pub store_durably-requires-clause-spare : goal.store_durably-requires-clause-spare
store_durably-requires-clause-spare g c =
    omega (arith, c.in_ok-store_records.ensures.room.spare 0 (c.requires.room.spare 0 (omega arith)))

pub returns-in_err-store_records-clause-begun : goal.returns-in_err-store_records-clause-begun
unfolding version_2_steps
returns-in_err-store_records-clause-begun g c = did_some_front (durable_store 0 1 version_2.version) c.store_records.ensures.begun

pub returns-in_err-store_durably-clause-begun : goal.returns-in_err-store_durably-clause-begun
unfolding version_2_steps
returns-in_err-store_durably-clause-begun g c =
    let At : ℕ → Type 0 = λ number. DidSome (durable_store 0 1 number) (g.L.Lines.history c.store_records.new.header) (g.L.Lines.history c.store_durably.new.part) in
    did_did_some c.in_ok-store_records.ensures.done (subst At c.number.ensures c.store_durably.ensures.begun)

pub returns-clause-done : goal.returns-clause-done
unfolding version_2_steps
returns-clause-done g c =
    let At : ℕ → Type 0 = λ number. DidLineStep (durable_store 0 1 number) (g.L.Lines.history c.store_records.new.header) (g.L.Lines.history c.store_durably.new.part) in
    did_did c.in_ok-store_records.ensures.done (subst At c.number.ensures c.in_ok-store_durably.ensures.done)

pub returns-clause-begun : goal.returns-clause-begun
returns-clause-begun g c = did_some_all (returns-clause-done g c)

pub returns-clause-room : goal.returns-clause-room
returns-clause-room g c =
    stays_stays c.in_ok-store_records.ensures.room (stays_settled 1 0 c.store_durably.ensures.room c.in_ok-store_durably.ensures.settled)
