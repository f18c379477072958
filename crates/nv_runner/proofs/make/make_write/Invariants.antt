-- The writes so far found no room in the log, and the cleaner's batches made some; nothing was placed.
use Rattle.std.proofs.Common.{◌≡◌, List, [], length}
use Rattle.nv_table.specs.invariant.Idle.{IsIdle, IsLater}
use Rattle.nv_table.specs.state.States.{IsOf}
use Rattle.nv_table.specs.state.Workspaces.{IsWorkspace}
use Rattle.nv_mirror.specs.Answers.{IsUnplaced}
use Rattle.nv_calls.specs.histories.Faults.{open_writes}
use Rattle.nv_calls.specs.histories.Heeds.{HasSeenStop}
use Rattle.nv_runner.specs.Runs.{GoesOn}
use Rattle.nv_runner.specs.Tries.{FoundNoRoom, FullTry}
use Rattle.nv_runner.specs.Written.{asks_in, bytes_in}
use Rattle.nv_runner.proofs.make.make_write.Given as goal

abbrev pub invariant-loop : goal.invariant-loop
invariant-loop g l = record {
  board : IsOf l.mount.board l.pass;
  idle : IsIdle l.pass;
  later : IsLater l.initial.pass l.pass;
  stays : HasSeenStop l.initial.pass → HasSeenStop l.pass;
  on : GoesOn l.worker 0 l.initial.pass l.pass;
  full : (full : List FullTry) × FoundNoRoom (asks_in l.written l.at) l.mount.fds l.worker l.fd l.at (length (bytes_in l.written)) full l.initial.pass l.pass;
  unplaced : IsUnplaced l.initial.pass.view l.pass.view;
  opens : open_writes l.pass ≡ open_writes l.initial.pass;
  workspace : IsWorkspace l.mount.board.opened.sizes l.workspace;
  bare : l.workspace.parts.items ≡ [];
  next : (goal.iterator-loop g).can_next l.iterator';
  finite : (goal.iterator-loop g).is_finite l.iterator';
}
