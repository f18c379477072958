-- The read is under way from wherever it was at first, and there are fewer and fewer steps before it.
use Rattle.nv_table.specs.state.States.{IsOf, PassState}
use Rattle.nv_calls.specs.reads.ReadMachines.{IsReadvUnderWay, measure}
use Rattle.nv_board_tests.proofs.machines.read_parts_slowly.Given as goal

abbrev pub invariant-loop-result : goal.invariant-loop-result
invariant-loop-result l = record {
  board : IsOf l.mount.board l.pass;
  since : (start : PassState) → IsReadvUnderWay l.mount.fds l.fn.read l.fn.parts start l.fn.pass → IsReadvUnderWay l.mount.fds l.read l.parts start l.pass;
}

abbrev pub decreases-loop-result : goal.decreases-loop-result
decreases-loop-result l = measure l.pass.view.opened.sizes l.read
