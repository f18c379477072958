-- So many advances were made, and all of them fell short.
use Rattle.std.proofs.Common.{◌≡◌, ◌≢◌, ◌≤◌, false, List, [], length, ◌-◌}
use Rattle.std.specs.Prelude.{All, None}
use Rattle.nv_core.specs.steps.Events.{Event}
use Rattle.nv_table.specs.state.Workspaces.{IsWorkspace}
use Rattle.nv_schedule.specs.Following.{FallShort, IsWell, Stands, all_events, next_at}
use Rattle.nv_schedule.specs.Going.{AllGoOn}
use Rattle.nv_schedule.specs.Orders.{ComeBehind}
use Rattle.nv_schedule.proofs.tokens.advance_to.Given as goal

abbrev pub invariant-loop-made : goal.invariant-loop-made
invariant-loop-made g l = record {
  stand : All (Stands l.mount) l.callers;
  on : AllGoOn l.mount.fds l.initial.callers l.callers;
  workspace : IsWorkspace l.mount.board.opened.sizes l.workspace;
  bare : l.workspace.parts.items ≡ [];
  view : l.view.table ≡ l.mount.board.table;
  some : next_at l.callers l.place ≢ None;
  few : l.made ≤ 100000;
  advances : List (List Event);
  well : l.cut ≡ false → All IsWell l.callers;
  fell : FallShort l.mount.fds l.cut l.reach l.place l.initial.callers advances l.callers;
  count : length advances ≡ l.made;
  behind : ComeBehind (all_events advances) l.initial.view.run l.view.run;
}

abbrev pub decreases-loop-made : goal.decreases-loop-made
decreases-loop-made g l = 100000 - l.made
