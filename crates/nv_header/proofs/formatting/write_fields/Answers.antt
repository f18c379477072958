use Rattle.std.proofs.Common.{[], ◌∷◌}
use Rattle.nv_pmem.specs.Steps.{StoreWord, Flush, Fence}
use Rattle.nv_pmem.proofs.StepLaws.{did_did, did_did_some, did_some_all, did_some_front}
use Rattle.nv_header.specs.HeaderSteps.{field_steps}
use Rattle.nv_header.proofs.formatting.write_fields.Goals as goal

pub returns-in_err-store-clause-begun : goal.returns-in_err-store-clause-begun
unfolding field_steps
returns-in_err-store-clause-begun g c = rw (← c.number.ensures) (did_some_front (StoreWord 0 2 c.args.geometry.page ∷ StoreWord 0 3 c.args.geometry.entries ∷ StoreWord 0 4 0 ∷ StoreWord 1 0 0 ∷ Flush 0 ∷ Flush 1 ∷ Fence ∷ []) c.store.ensures.begun)

pub returns-in_err-store-2-clause-begun : goal.returns-in_err-store-2-clause-begun
unfolding field_steps
returns-in_err-store-2-clause-begun g c = rw (← c.number.ensures) (did_some_front (StoreWord 0 3 c.args.geometry.entries ∷ StoreWord 0 4 0 ∷ StoreWord 1 0 0 ∷ Flush 0 ∷ Flush 1 ∷ Fence ∷ []) (did_did_some c.in_ok-store.ensures.done c.store-2.ensures.begun))

pub returns-in_err-store-3-clause-begun : goal.returns-in_err-store-3-clause-begun
unfolding field_steps
returns-in_err-store-3-clause-begun g c = rw (← c.number.ensures) (did_some_front (StoreWord 0 4 0 ∷ StoreWord 1 0 0 ∷ Flush 0 ∷ Flush 1 ∷ Fence ∷ []) (did_did_some (did_did c.in_ok-store.ensures.done c.in_ok-store-2.ensures.done) c.store-3.ensures.begun))

pub returns-in_err-store-4-clause-begun : goal.returns-in_err-store-4-clause-begun
unfolding field_steps
returns-in_err-store-4-clause-begun g c = rw (← c.number.ensures) (did_some_front (StoreWord 1 0 0 ∷ Flush 0 ∷ Flush 1 ∷ Fence ∷ []) (did_did_some (did_did (did_did c.in_ok-store.ensures.done c.in_ok-store-2.ensures.done) c.in_ok-store-3.ensures.done) c.store-4.ensures.begun))

pub returns-in_err-store-5-clause-begun : goal.returns-in_err-store-5-clause-begun
unfolding field_steps
returns-in_err-store-5-clause-begun g c = rw (← c.number.ensures) (did_some_front (Flush 0 ∷ Flush 1 ∷ Fence ∷ []) (did_did_some (did_did (did_did (did_did c.in_ok-store.ensures.done c.in_ok-store-2.ensures.done) c.in_ok-store-3.ensures.done) c.in_ok-store-4.ensures.done) c.store-5.ensures.begun))

pub returns-in_err-flush-clause-begun : goal.returns-in_err-flush-clause-begun
unfolding field_steps
returns-in_err-flush-clause-begun g c = rw (← c.number.ensures) (did_some_front (Flush 1 ∷ Fence ∷ []) (did_did_some (did_did (did_did (did_did (did_did c.in_ok-store.ensures.done c.in_ok-store-2.ensures.done) c.in_ok-store-3.ensures.done) c.in_ok-store-4.ensures.done) c.in_ok-store-5.ensures.done) c.flush.ensures.begun))

pub returns-in_err-flush-2-clause-begun : goal.returns-in_err-flush-2-clause-begun
unfolding field_steps
returns-in_err-flush-2-clause-begun g c = rw (← c.number.ensures) (did_some_front (Fence ∷ []) (did_did_some (did_did (did_did (did_did (did_did (did_did c.in_ok-store.ensures.done c.in_ok-store-2.ensures.done) c.in_ok-store-3.ensures.done) c.in_ok-store-4.ensures.done) c.in_ok-store-5.ensures.done) c.in_ok-flush.ensures.done) c.flush-2.ensures.begun))

pub returns-in_err-fence-clause-begun : goal.returns-in_err-fence-clause-begun
unfolding field_steps
returns-in_err-fence-clause-begun g c = rw (← c.number.ensures) (did_did_some (did_did (did_did (did_did (did_did (did_did (did_did c.in_ok-store.ensures.done c.in_ok-store-2.ensures.done) c.in_ok-store-3.ensures.done) c.in_ok-store-4.ensures.done) c.in_ok-store-5.ensures.done) c.in_ok-flush.ensures.done) c.in_ok-flush-2.ensures.done) c.fence.ensures.begun)

pub returns-clause-done : goal.returns-clause-done
unfolding field_steps
returns-clause-done g c = rw (← c.number.ensures) (did_did (did_did (did_did (did_did (did_did (did_did (did_did c.in_ok-store.ensures.done c.in_ok-store-2.ensures.done) c.in_ok-store-3.ensures.done) c.in_ok-store-4.ensures.done) c.in_ok-store-5.ensures.done) c.in_ok-flush.ensures.done) c.in_ok-flush-2.ensures.done) c.in_ok-fence.ensures.done)

pub returns-clause-begun : goal.returns-clause-begun
returns-clause-begun g c = did_some_all (returns-clause-done g c)
