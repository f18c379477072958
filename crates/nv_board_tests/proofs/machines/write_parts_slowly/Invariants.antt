-- The write is under way from wherever it was at first, and there are fewer and fewer steps before it.
use Rattle.std.proofs.Common.{◌≡◌, []}
use Rattle.nv_table.specs.state.States.{IsOf, PassState}
use Rattle.nv_table.specs.state.Workspaces.{IsWorkspace}
use Rattle.nv_calls.specs.writes.WriteMachines.{IsWritevUnderWay, measure}
use Rattle.nv_board_tests.proofs.machines.write_parts_slowly.Given as goal

abbrev pub invariant-loop-result : goal.invariant-loop-result
invariant-loop-result l = record {
  board : IsOf l.mount.board l.pass;
  since : (start : PassState) → IsWritevUnderWay l.mount.fds l.fn.write l.parts start l.fn.pass → IsWritevUnderWay l.mount.fds l.write l.parts start l.pass;
  workspace : IsWorkspace l.mount.board.opened.sizes l.workspace;
  bare : l.workspace.parts.items ≡ [];
}

abbrev pub decreases-loop-result : goal.decreases-loop-result
decreases-loop-result l = measure l.pass.view.opened.sizes l.write
