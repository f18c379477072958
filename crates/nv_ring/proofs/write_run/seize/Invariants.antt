-- It is under way, with fewer and fewer steps before it.
use Rattle.std.proofs.Common.{◌≡◌}
use Rattle.nv_plain.specs.declared.call.FileCall.{FileCall}
use Rattle.nv_table.specs.state.States.{IsOf, PassState}
use Rattle.nv_table.specs.state.Views.{pass_of}
use Rattle.nv_ring.specs.Appends.{append_measure}
use Rattle.nv_ring.specs.declared.write.RunningWrite.TheVariants.{Append}
use Rattle.nv_ring.specs.RunningWrites.{IsUnderWay}
use Rattle.nv_ring.proofs.write_run.seize.Given as goal

abbrev pub invariant-loop-append : goal.invariant-loop-append
invariant-loop-append g l = record {
  board : IsOf l.board l.pass;
  asks : (pass_of l.pass.view).asked ≡ (pass_of l.fn.pass.view).asked;
  way : (call : FileCall) (start : PassState) → IsUnderWay call (Append l.fn.append) start l.fn.pass → IsUnderWay call (Append l.append) start l.pass;
}

abbrev pub decreases-loop-append : goal.decreases-loop-append
decreases-loop-append g l = append_measure l.append
