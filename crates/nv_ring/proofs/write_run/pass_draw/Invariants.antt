-- Its draw is under way.
use Rattle.std.proofs.Common.{◌≡◌, []}
use Rattle.std.specs.Prelude.{vec_capacity}
use Rattle.nv_plain.specs.declared.call.FileCall.{FileCall}
use Rattle.nv_table.specs.state.States.{IsOf, PassState}
use Rattle.nv_table.specs.state.Views.{pass_of}
use Rattle.nv_ring.specs.Draws.{draw_measure}
use Rattle.nv_ring.specs.declared.write.RunningWrite.TheVariants.{Draw}
use Rattle.nv_ring.specs.RunningWrites.{IsUnderWay}
use Rattle.nv_ring.proofs.write_run.pass_draw.Given as goal

abbrev pub invariant-loop-draw : goal.invariant-loop-draw
invariant-loop-draw g l = record {
  board : IsOf l.board l.pass;
  bare : l.parts.items ≡ [];
  places : vec_capacity l.parts ≡ vec_capacity l.fn.parts;
  asks : (pass_of l.pass.view).asked ≡ (pass_of l.fn.pass.view).asked;
  way : (call : FileCall) (start : PassState) → IsUnderWay call (Draw l.fn.draw) start l.fn.pass → IsUnderWay call (Draw l.draw) start l.pass;
}

abbrev pub decreases-loop-draw : goal.decreases-loop-draw
decreases-loop-draw g l = draw_measure l.draw
