-- The tokens so far were followed.
use Rattle.std.proofs.Common.{◌≡◌, false, List, [], ◌++◌, length}
use Rattle.std.specs.Prelude.{All}
use Rattle.nv_core.specs.steps.Events.{Event}
use Rattle.nv_table.specs.state.Workspaces.{IsWorkspace}
use Rattle.nv_schedule.specs.Cuts.{IsCutBy, cut_behind}
use Rattle.nv_schedule.specs.Following.{Follows, IsWell, Stands}
use Rattle.nv_schedule.specs.Going.{AllGoOn}
use Rattle.nv_schedule.specs.Orders.{ComeBehind}
use Rattle.nv_trace.specs.declared.token.Token.{Token}
use Rattle.nv_schedule.proofs.tokens.follow.Given as goal

abbrev pub invariant-loop-rest : goal.invariant-loop-rest
invariant-loop-rest g l = record {
  stand : All (Stands l.mount) l.callers;
  on : AllGoOn l.mount.fds l.initial.callers l.callers;
  workspace : IsWorkspace l.mount.board.opened.sizes l.workspace;
  bare : l.workspace.parts.items ≡ [];
  view : l.view.table ≡ l.mount.board.table;
  before : List Token;
  tokens : l.fn.tokens ≡ before ++ l.rest;
  trail : List Event;
  cut : l.cut ≡ cut_behind false before;
  well : l.cut ≡ false → All IsWell l.callers;
  follows : Follows l.mount.fds false before l.initial.callers trail l.callers;
  behind : ComeBehind trail l.initial.view.run l.view.run;
  armed : IsCutBy before (g.D.Bench.state l.initial.bench) (g.D.Bench.state l.bench);
}

abbrev pub decreases-loop-rest : goal.decreases-loop-rest
decreases-loop-rest g l = length l.rest
