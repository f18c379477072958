-- The pass is between two calls, and its workspace bare.
use Rattle.std.proofs.Common.{◌≡◌, []}
use Rattle.nv_table.specs.invariant.Idle.{IsIdle, IsLater}
use Rattle.nv_table.specs.state.States.{IsOf}
use Rattle.nv_table.specs.state.Workspaces.{IsWorkspace}
use Rattle.nv_board_tests.proofs.vectored.played.Given as goal

abbrev pub invariant-loop-row : goal.invariant-loop-row
invariant-loop-row g l = record {
  board : IsOf l.mount.board l.pass;
  idle : IsIdle l.pass;
  later : IsLater l.initial.pass l.pass;
  workspace : IsWorkspace l.mount.board.opened.sizes l.workspace;
  bare : l.workspace.parts.items ≡ [];
}
