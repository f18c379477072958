-- The write is under way from where the pass stood at first, and there are fewer and fewer steps before it.
use Rattle.std.proofs.Common.{◌≡◌, []}
use Rattle.std.specs.Prelude.{vec_capacity}
use Rattle.nv_plain.specs.declared.call.FileCall.{FileCall}
use Rattle.nv_table.specs.state.States.{IsOf, PassState}
use Rattle.nv_ring.specs.RunningWrites.{IsSettled, IsUnderWay, asked_in, write_measure}
use Rattle.nv_ring.proofs.write_run.write_on.Given as goal

abbrev pub invariant-loop-write : goal.invariant-loop-write
invariant-loop-write g l = record {
  board : IsOf l.board l.pass;
  settled : IsSettled l.write;
  bare : l.parts.items ≡ [];
  places : vec_capacity l.parts ≡ vec_capacity l.fn.parts;
  asks : asked_in g.A.Asks.call l.write l.pass ≡ asked_in g.A.Asks.call l.fn.write l.fn.pass;
  way : (call : FileCall) (start : PassState) → IsUnderWay call l.fn.write start l.fn.pass → IsUnderWay call l.write start l.pass;
}

abbrev pub decreases-loop-write : goal.decreases-loop-write
decreases-loop-write g l = write_measure l.write
