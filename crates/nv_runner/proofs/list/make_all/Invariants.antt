-- The calls so far were made and answered; with those that are left they are all.
use Rattle.std.proofs.Common.{◌≡◌, [], ◌++◌, length}
use Rattle.nv_table.specs.invariant.Idle.{IsIdle, IsLater}
use Rattle.nv_table.specs.state.States.{IsOf}
use Rattle.nv_table.specs.state.Workspaces.{IsWorkspace}
use Rattle.nv_runner.specs.Lists.{AreMade, calls_made}
use Rattle.nv_runner.proofs.list.make_all.Given as goal

abbrev pub invariant-loop-rooms : goal.invariant-loop-rooms
invariant-loop-rooms g l = record {
  board : IsOf l.mount.board l.pass;
  idle : IsIdle l.pass;
  later : IsLater l.initial.pass l.pass;
  workspace : IsWorkspace l.mount.board.opened.sizes l.workspace;
  bare : l.workspace.parts.items ≡ [];
  listed : calls_made (g.C.Calls.made l.calls) ++ g.C.Calls.left l.calls ≡ g.C.Calls.left l.fn.calls;
  each : AreMade l.mount.fds l.worker (g.C.Calls.made l.calls) l.initial.pass l.pass;
}

abbrev pub decreases-loop-rooms : goal.decreases-loop-rooms
decreases-loop-rooms g l = length (g.C.Calls.left l.calls)
