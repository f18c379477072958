-- It is in the log, and gives back what it holds.
use Rattle.std.proofs.Common.{◌≡◌}
use Rattle.nv_plain.specs.declared.call.FileCall.{FileCall}
use Rattle.nv_table.specs.state.States.{IsOf, PassState}
use Rattle.nv_table.specs.state.Views.{pass_of}
use Rattle.nv_mirror.specs.Releases.{release_measure}
use Rattle.nv_ring.specs.declared.write.RunningWrite.TheVariants.{Append, Release}
use Rattle.nv_ring.specs.RunningWrites.{IsUnderWay}
use Rattle.nv_ring.proofs.write_run.end.Given as goal

abbrev pub invariant-loop-release : goal.invariant-loop-release
invariant-loop-release g l = record {
  board : IsOf l.board l.pass;
  asks : (pass_of l.pass.view).asked ≡ (pass_of l.fn.pass.view).asked;
  way : (call : FileCall) (start : PassState) → IsUnderWay call (Append l.fn.append) start l.fn.pass → IsUnderWay call (Release l.release) start l.pass;
}

abbrev pub decreases-loop-release : goal.decreases-loop-release
decreases-loop-release g l = release_measure l.release
