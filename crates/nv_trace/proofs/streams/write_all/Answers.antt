use Rattle.std.proofs.Common.{refl, rules}
use Rattle.std.proofs.lemmas.List.{take_rest}
use Rattle.std.proofs.lemmas.Result.{err_from_is_err_and}
use Rattle.nv_trace.proofs.Writing.{none_written, more_written, front_written}
use Rattle.nv_trace.proofs.streams.write_all.Goals as goal

pub loop-rest-init : goal.loop-rest-init
loop-rest-init g c = record { part = none_written _ _; no_fault = refl }

pub returns-in_err-count-clause-front : goal.returns-in_err-count-clause-front
returns-in_err-count-clause-front g c =
    let p = err_from_is_err_and c.from_residual.result c.from_residual.ensures.1 in
    rw p.1 (front_written _ _ _ _ _ c.loop-rest.invariant.part c.in_err-count.ensures.unchanged)

pub loop-rest-preserved : goal.loop-rest-preserved
loop-rest-preserved g c = record {
  part = rw take_rest (more_written _ _ _ _ _ _ c.loop-rest.invariant.part c.in_ok-count.ensures.told);
  no_fault = search rules;
}
