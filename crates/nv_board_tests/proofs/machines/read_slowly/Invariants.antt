-- The read is under way from wherever it was at first, and there are fewer and fewer steps before it.
use Rattle.nv_table.specs.state.States.{IsOf, PassState}
use Rattle.nv_calls.specs.reads.ReadMachines.{IsReadUnderWay, measure}
use Rattle.nv_board_tests.proofs.machines.read_slowly.Given as goal

abbrev pub invariant-loop-result : goal.invariant-loop-result
invariant-loop-result g l = record {
  board : IsOf l.mount.board l.pass;
  since : (start : PassState) → IsReadUnderWay l.mount.fds l.fn.read l.fn.list start l.fn.pass → IsReadUnderWay l.mount.fds l.read l.list start l.pass;
}

abbrev pub decreases-loop-result : goal.decreases-loop-result
decreases-loop-result g l = measure l.pass.view.opened.sizes l.read
