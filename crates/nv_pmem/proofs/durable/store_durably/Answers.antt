use Rattle.std.proofs.Common.{[], ◌∷◌, ◌<◌, length, arith}
use Rattle.std.proofs.lemmas.Result.{on_ok_weaker}
use Rattle.nv_pmem.specs.Steps.{Flush, Fence, durable_store}
use Rattle.nv_pmem.proofs.CallLaws.{one_well, one_failed, fence_call, calls_failed, failed_front, each_failed, each_each, each_then}
use Rattle.nv_pmem.proofs.DurableLaws.{durable_moments, durable_value, durable_quiet}
use Rattle.nv_pmem.proofs.StepLaws.{did_did, did_did_some, did_some_front, tells_told}
use Rattle.nv_pmem.proofs.durable.store_durably.Goals as goal

pub returns-in_err-store-clause-begun : goal.returns-in_err-store-clause-begun
unfolding durable_store
returns-in_err-store-clause-begun g c = did_some_front (Flush c.args.line ∷ Fence ∷ []) c.store.ensures.begun

pub returns-in_err-store-clause-moments : goal.returns-in_err-store-clause-moments
returns-in_err-store-clause-moments g c = durable_moments c.args.line c.args.word c.args.value (returns-in_err-store-clause-begun g c)

pub returns-in_err-flush-clause-begun : goal.returns-in_err-flush-clause-begun
unfolding durable_store
returns-in_err-flush-clause-begun g c = did_some_front (Fence ∷ []) (did_did_some c.in_ok-store.ensures.done c.flush.ensures.begun)

pub returns-in_err-flush-clause-moments : goal.returns-in_err-flush-clause-moments
returns-in_err-flush-clause-moments g c = durable_moments c.args.line c.args.word c.args.value (returns-in_err-flush-clause-begun g c)

pub returns-clause-begun : goal.returns-clause-begun
unfolding durable_store
returns-clause-begun g c = did_did_some (did_did c.in_ok-store.ensures.done c.in_ok-flush.ensures.done) c.fence.ensures.begun

pub returns-clause-done : goal.returns-clause-done
unfolding durable_store
returns-clause-done g c = on_ok_weaker c.fence.result (did_did (did_did c.in_ok-store.ensures.done c.in_ok-flush.ensures.done)) c.fence.ensures.done

pub returns-clause-moments : goal.returns-clause-moments
returns-clause-moments g c = durable_moments c.args.line c.args.word c.args.value (returns-clause-begun g c)

pub returns-clause-durable : goal.returns-clause-durable
returns-clause-durable g c =
    on_ok_weaker c.fence.result
    (durable_value c.args.line c.args.word c.args.value
    (tells_told (g.L.Lines.history c.args.part.now) (λ now. c.args.line < length now)
    (λ now past is. omega (arith, g.met.L.Lines.told_lines c.args.part.now now past is))))
    (returns-clause-done g c)

pub returns-clause-quiet : goal.returns-clause-quiet
returns-clause-quiet g c = on_ok_weaker c.fence.result (durable_quiet c.args.line c.args.word c.args.value) (returns-clause-done g c)

pub returns-in_err-store-clause-calls : goal.returns-in_err-store-clause-calls
unfolding durable_store
returns-in_err-store-clause-calls g c =
    calls_failed _ c.from_residual.ensures.0
    (failed_front (Flush c.args.line ∷ Fence ∷ []) (one_failed c.store.ensures.begun c.store.ensures.room c.in_err-store.ensures.cause))

pub returns-in_err-flush-clause-calls : goal.returns-in_err-flush-clause-calls
unfolding durable_store
returns-in_err-flush-clause-calls g c =
    calls_failed _ c.from_residual-in_err-flush.ensures.0
    (failed_front (Fence ∷ [])
    (each_failed (one_well c.requires.line c.in_ok-store.ensures.done c.store.ensures.room c.in_ok-store.ensures.cause) (one_failed c.flush.ensures.begun c.flush.ensures.room c.in_err-flush.ensures.cause)))

pub returns-clause-calls : goal.returns-clause-calls
unfolding durable_store
returns-clause-calls g c =
    each_then
    (each_each (one_well c.requires.line c.in_ok-store.ensures.done c.store.ensures.room c.in_ok-store.ensures.cause)
    (one_well (omega (arith, c.requires.line, c.store.ensures.room.lines)) c.in_ok-flush.ensures.done (c.flush.ensures.room, c.in_ok-flush.ensures.flushed) c.in_ok-flush.ensures.cause))
    (fence_call c.fence.result _ _ c.fence.ensures.begun c.fence.ensures.done c.fence.ensures.room c.fence.ensures.freed c.fence.ensures.cause)
