use Rattle.std.proofs.Common.{[], ◌∷◌, arith}
use Rattle.nv_pmem.specs.Steps.{StoreWord, Flush, Fence}
use Rattle.nv_pmem.proofs.CallLaws.{one_well, one_failed, all_well, calls_failed, each_each, each_failed, failed_front}
use Rattle.nv_entry.specs.Group.{entry_field_steps}
use Rattle.nv_entry.proofs.group.write_head.Goals as goal

pub returns-in_err-store-clause-calls : goal.returns-in_err-store-clause-calls
unfolding entry_field_steps
returns-in_err-store-clause-calls g c = calls_failed _ c.from_residual.ensures.0 (failed_front (StoreWord 0 2 c.args.head.at ∷ StoreWord 0 3 c.args.head.size ∷ StoreWord 0 4 c.args.head.count ∷ StoreWord 0 5 c.args.head.leader ∷ Flush 0 ∷ Fence ∷ []) (one_failed c.store.ensures.begun c.store.ensures.room c.in_err-store.ensures.cause))

pub returns-in_err-store-2-clause-calls : goal.returns-in_err-store-2-clause-calls
unfolding entry_field_steps
returns-in_err-store-2-clause-calls g c = calls_failed _ c.from_residual-in_err-store-2.ensures.0 (failed_front (StoreWord 0 3 c.args.head.size ∷ StoreWord 0 4 c.args.head.count ∷ StoreWord 0 5 c.args.head.leader ∷ Flush 0 ∷ Fence ∷ []) (each_failed (one_well c.requires.lines c.in_ok-store.ensures.done c.store.ensures.room c.in_ok-store.ensures.cause) (one_failed c.store-2.ensures.begun c.store-2.ensures.room c.in_err-store-2.ensures.cause)))

pub returns-in_err-store-3-clause-calls : goal.returns-in_err-store-3-clause-calls
unfolding entry_field_steps
returns-in_err-store-3-clause-calls g c = calls_failed _ c.from_residual-in_err-store-3.ensures.0 (failed_front (StoreWord 0 4 c.args.head.count ∷ StoreWord 0 5 c.args.head.leader ∷ Flush 0 ∷ Fence ∷ []) (each_failed (each_each (one_well c.requires.lines c.in_ok-store.ensures.done c.store.ensures.room c.in_ok-store.ensures.cause) (one_well (omega (arith, c.requires.lines, c.store.ensures.room.lines)) c.in_ok-store-2.ensures.done c.store-2.ensures.room c.in_ok-store-2.ensures.cause)) (one_failed c.store-3.ensures.begun c.store-3.ensures.room c.in_err-store-3.ensures.cause)))

pub returns-in_err-store-4-clause-calls : goal.returns-in_err-store-4-clause-calls
unfolding entry_field_steps
returns-in_err-store-4-clause-calls g c = calls_failed _ c.from_residual-in_err-store-4.ensures.0 (failed_front (StoreWord 0 5 c.args.head.leader ∷ Flush 0 ∷ Fence ∷ []) (each_failed (each_each (each_each (one_well c.requires.lines c.in_ok-store.ensures.done c.store.ensures.room c.in_ok-store.ensures.cause) (one_well (omega (arith, c.requires.lines, c.store.ensures.room.lines)) c.in_ok-store-2.ensures.done c.store-2.ensures.room c.in_ok-store-2.ensures.cause)) (one_well (omega (arith, c.requires.lines, c.store.ensures.room.lines, c.store-2.ensures.room.lines)) c.in_ok-store-3.ensures.done c.store-3.ensures.room c.in_ok-store-3.ensures.cause)) (one_failed c.store-4.ensures.begun c.store-4.ensures.room c.in_err-store-4.ensures.cause)))

pub returns-in_err-store-5-clause-calls : goal.returns-in_err-store-5-clause-calls
unfolding entry_field_steps
returns-in_err-store-5-clause-calls g c = calls_failed _ c.from_residual-in_err-store-5.ensures.0 (failed_front (Flush 0 ∷ Fence ∷ []) (each_failed (each_each (each_each (each_each (one_well c.requires.lines c.in_ok-store.ensures.done c.store.ensures.room c.in_ok-store.ensures.cause) (one_well (omega (arith, c.requires.lines, c.store.ensures.room.lines)) c.in_ok-store-2.ensures.done c.store-2.ensures.room c.in_ok-store-2.ensures.cause)) (one_well (omega (arith, c.requires.lines, c.store.ensures.room.lines, c.store-2.ensures.room.lines)) c.in_ok-store-3.ensures.done c.store-3.ensures.room c.in_ok-store-3.ensures.cause)) (one_well (omega (arith, c.requires.lines, c.store.ensures.room.lines, c.store-2.ensures.room.lines, c.store-3.ensures.room.lines)) c.in_ok-store-4.ensures.done c.store-4.ensures.room c.in_ok-store-4.ensures.cause)) (one_failed c.store-5.ensures.begun c.store-5.ensures.room c.in_err-store-5.ensures.cause)))

pub returns-in_err-flush-clause-calls : goal.returns-in_err-flush-clause-calls
unfolding entry_field_steps
returns-in_err-flush-clause-calls g c = calls_failed _ c.from_residual-in_err-flush.ensures.0 (failed_front (Fence ∷ []) (each_failed (each_each (each_each (each_each (each_each (one_well c.requires.lines c.in_ok-store.ensures.done c.store.ensures.room c.in_ok-store.ensures.cause) (one_well (omega (arith, c.requires.lines, c.store.ensures.room.lines)) c.in_ok-store-2.ensures.done c.store-2.ensures.room c.in_ok-store-2.ensures.cause)) (one_well (omega (arith, c.requires.lines, c.store.ensures.room.lines, c.store-2.ensures.room.lines)) c.in_ok-store-3.ensures.done c.store-3.ensures.room c.in_ok-store-3.ensures.cause)) (one_well (omega (arith, c.requires.lines, c.store.ensures.room.lines, c.store-2.ensures.room.lines, c.store-3.ensures.room.lines)) c.in_ok-store-4.ensures.done c.store-4.ensures.room c.in_ok-store-4.ensures.cause)) (one_well (omega (arith, c.requires.lines, c.store.ensures.room.lines, c.store-2.ensures.room.lines, c.store-3.ensures.room.lines, c.store-4.ensures.room.lines)) c.in_ok-store-5.ensures.done c.store-5.ensures.room c.in_ok-store-5.ensures.cause)) (one_failed c.flush.ensures.begun c.flush.ensures.room c.in_err-flush.ensures.cause)))

pub returns-in_err-fence-clause-calls : goal.returns-in_err-fence-clause-calls
unfolding entry_field_steps
returns-in_err-fence-clause-calls g c = calls_failed _ c.from_residual-in_err-fence.ensures.0 (each_failed (each_each (each_each (each_each (each_each (each_each (one_well c.requires.lines c.in_ok-store.ensures.done c.store.ensures.room c.in_ok-store.ensures.cause) (one_well (omega (arith, c.requires.lines, c.store.ensures.room.lines)) c.in_ok-store-2.ensures.done c.store-2.ensures.room c.in_ok-store-2.ensures.cause)) (one_well (omega (arith, c.requires.lines, c.store.ensures.room.lines, c.store-2.ensures.room.lines)) c.in_ok-store-3.ensures.done c.store-3.ensures.room c.in_ok-store-3.ensures.cause)) (one_well (omega (arith, c.requires.lines, c.store.ensures.room.lines, c.store-2.ensures.room.lines, c.store-3.ensures.room.lines)) c.in_ok-store-4.ensures.done c.store-4.ensures.room c.in_ok-store-4.ensures.cause)) (one_well (omega (arith, c.requires.lines, c.store.ensures.room.lines, c.store-2.ensures.room.lines, c.store-3.ensures.room.lines, c.store-4.ensures.room.lines)) c.in_ok-store-5.ensures.done c.store-5.ensures.room c.in_ok-store-5.ensures.cause)) (one_well (omega (arith, c.requires.lines, c.store.ensures.room.lines, c.store-2.ensures.room.lines, c.store-3.ensures.room.lines, c.store-4.ensures.room.lines, c.store-5.ensures.room.lines)) c.in_ok-flush.ensures.done (c.flush.ensures.room, c.in_ok-flush.ensures.flushed) c.in_ok-flush.ensures.cause)) (one_failed c.fence.ensures.begun c.fence.ensures.room c.in_err-fence.ensures.cause))

pub returns-clause-calls : goal.returns-clause-calls
unfolding entry_field_steps
returns-clause-calls g c = all_well _ (each_each (each_each (each_each (each_each (each_each (each_each (one_well c.requires.lines c.in_ok-store.ensures.done c.store.ensures.room c.in_ok-store.ensures.cause) (one_well (omega (arith, c.requires.lines, c.store.ensures.room.lines)) c.in_ok-store-2.ensures.done c.store-2.ensures.room c.in_ok-store-2.ensures.cause)) (one_well (omega (arith, c.requires.lines, c.store.ensures.room.lines, c.store-2.ensures.room.lines)) c.in_ok-store-3.ensures.done c.store-3.ensures.room c.in_ok-store-3.ensures.cause)) (one_well (omega (arith, c.requires.lines, c.store.ensures.room.lines, c.store-2.ensures.room.lines, c.store-3.ensures.room.lines)) c.in_ok-store-4.ensures.done c.store-4.ensures.room c.in_ok-store-4.ensures.cause)) (one_well (omega (arith, c.requires.lines, c.store.ensures.room.lines, c.store-2.ensures.room.lines, c.store-3.ensures.room.lines, c.store-4.ensures.room.lines)) c.in_ok-store-5.ensures.done c.store-5.ensures.room c.in_ok-store-5.ensures.cause)) (one_well (omega (arith, c.requires.lines, c.store.ensures.room.lines, c.store-2.ensures.room.lines, c.store-3.ensures.room.lines, c.store-4.ensures.room.lines, c.store-5.ensures.room.lines)) c.in_ok-flush.ensures.done (c.flush.ensures.room, c.in_ok-flush.ensures.flushed) c.in_ok-flush.ensures.cause)) (one_well tt c.in_ok-fence.ensures.done (c.fence.ensures.room, c.in_ok-fence.ensures.freed) c.in_ok-fence.ensures.cause))
