-- Its front is under way.
use Rattle.std.proofs.Common.{◌≡◌, []}
use Rattle.std.specs.Prelude.{vec_capacity}
use Rattle.nv_plain.specs.declared.call.FileCall.{FileCall}
use Rattle.nv_table.specs.state.States.{IsOf, PassState}
use Rattle.nv_mirror.specs.Fronts.{front_measure}
use Rattle.nv_ring.specs.declared.write.RunningWrite.TheVariants.{Front}
use Rattle.nv_ring.specs.RunningWrites.{IsUnderWay, asked_in}
use Rattle.nv_ring.proofs.write_run.pass_front.Given as goal

abbrev pub invariant-loop-front : goal.invariant-loop-front
invariant-loop-front g l = record {
  board : IsOf l.board l.pass;
  bare : l.parts.items ≡ [];
  places : vec_capacity l.parts ≡ vec_capacity l.fn.parts;
  asks : asked_in g.A.Asks.call (Front l.front) l.pass ≡ asked_in g.A.Asks.call (Front l.fn.front) l.fn.pass;
  way : (call : FileCall) (start : PassState) → IsUnderWay call (Front l.fn.front) start l.fn.pass → IsUnderWay call (Front l.front) start l.pass;
}

abbrev pub decreases-loop-front : goal.decreases-loop-front
decreases-loop-front g l = front_measure l.front
