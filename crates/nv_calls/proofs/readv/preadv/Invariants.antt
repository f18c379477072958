-- The tries so far were answered Busy, and have placed nothing.
use Rattle.std.proofs.Common.{◌≡◌, List}
use Rattle.std.specs.List.{sum}
use Rattle.nv_core.specs.steps.Frames.{Covers}
use Rattle.nv_table.specs.invariant.Idle.{IsIdle, IsLater}
use Rattle.nv_table.specs.passes.Known.{known_by}
use Rattle.nv_table.specs.state.States.{IsOf}
use Rattle.nv_mirror.specs.Answers.{IsUnplaced}
use Rattle.nv_calls.specs.calls.Asks.{asks_readv}
use Rattle.nv_calls.specs.histories.Heeds.{HasSeenStop}
use Rattle.nv_calls.specs.histories.Tries.{Try, WereBusyAs}
use Rattle.nv_calls.proofs.readv.preadv.Given as goal

abbrev pub invariant-loop : goal.invariant-loop
invariant-loop g l = record {
  board : IsOf l.mount.board l.pass;
  idle : IsIdle l.pass;
  later : IsLater l.initial.pass l.pass;
  spare : l.pass.spare ≡ l.initial.pass.spare;
  unplaced : IsUnplaced l.initial.pass.view l.pass.view;
  lens : l.parts.lens ≡ l.initial.parts.lens;
  tried : (tries : List Try) × WereBusyAs (asks_readv l.at l.initial.parts.lens) l.mount.fds l.fd l.at (sum l.initial.parts.lens) tries l.initial.pass l.pass;
  stays : HasSeenStop l.initial.pass → HasSeenStop l.pass;
  knows : Covers (known_by l.initial.pass.view) (known_by l.pass.view);
  next : (goal.iterator-loop g).can_next l.iterator';
  finite : (goal.iterator-loop g).is_finite l.iterator';
}
