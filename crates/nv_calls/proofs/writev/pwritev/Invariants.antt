-- The writes so far were to be made again, and have placed nothing.
use Rattle.std.proofs.Common.{◌≡◌, List, [], length}
use Rattle.std.specs.List.{concat}
use Rattle.nv_core.specs.steps.Frames.{Covers}
use Rattle.nv_table.specs.invariant.Idle.{IsIdle, IsLater}
use Rattle.nv_table.specs.passes.Known.{known_by}
use Rattle.nv_table.specs.state.States.{IsOf}
use Rattle.nv_table.specs.state.Workspaces.{IsWorkspace}
use Rattle.nv_mirror.specs.declared.answers.Refusal.{Refusal}
use Rattle.nv_mirror.specs.Answers.{IsUnplaced}
use Rattle.nv_calls.specs.calls.Asks.{asks_writev}
use Rattle.nv_calls.specs.histories.Heeds.{HasSeenStop}
use Rattle.nv_calls.specs.writes.Writes.{WereMadeAgainAs}
use Rattle.nv_calls.proofs.writev.pwritev.Given as goal

abbrev pub invariant-loop : goal.invariant-loop
invariant-loop g l = record {
  board : IsOf l.mount.board l.pass;
  idle : IsIdle l.pass;
  later : IsLater l.initial.pass l.pass;
  spare : l.pass.spare ≡ l.initial.pass.spare;
  unplaced : IsUnplaced l.initial.pass.view l.pass.view;
  again : (tries : List Refusal) × WereMadeAgainAs (asks_writev l.at l.parts) l.mount.fds l.fd l.at (length (concat l.parts)) tries l.initial.pass l.pass;
  stays : HasSeenStop l.initial.pass → HasSeenStop l.pass;
  knows : Covers (known_by l.initial.pass.view) (known_by l.pass.view);
  workspace : IsWorkspace l.mount.board.opened.sizes l.workspace;
  bare : l.workspace.parts.items ≡ [];
  next : (goal.iterator-loop g).can_next l.iterator';
  finite : (goal.iterator-loop g).is_finite l.iterator';
}
