-- The batches so far left the pass alone, and placed nothing.
use Rattle.std.proofs.Common.{◌≡◌}
use Rattle.std.specs.Prelude.{Some}
use Rattle.nv_table.specs.invariant.BetweenSteps.{KnowsTaken}
use Rattle.nv_table.specs.invariant.Idle.{IsIdle, IsLater}
use Rattle.nv_table.specs.passes.Alone.{IsAlone}
use Rattle.nv_table.specs.state.States.{IsOf}
use Rattle.nv_mirror.specs.Answers.{IsUnplaced}
use Rattle.nv_runner.specs.OpenWrites.{KeepsFaults}
use Rattle.nv_runner.specs.Runs.{GoesOn}
use Rattle.nv_runner.specs.Tries.{HasRunBatches}
use Rattle.nv_runner.proofs.cleaning.clean_all.Given as goal

abbrev pub invariant-loop : goal.invariant-loop
invariant-loop g l = record {
  board : IsOf l.mount.board l.pass;
  idle : IsIdle l.pass;
  later : IsLater l.initial.pass l.pass;
  spare : l.pass.spare ≡ l.initial.pass.spare;
  unplaced : IsUnplaced l.initial.pass.view l.pass.view;
  keeps : KeepsFaults l.initial.pass l.pass;
  on : GoesOn (Some l.batch) 0 l.initial.pass l.pass;
  batches : HasRunBatches (Some l.batch) l.initial.pass l.pass;
  taken : KnowsTaken l.pass.view;
  alone : IsAlone l.pass.view;
  next : (goal.iterator-loop g).can_next l.iterator';
  finite : (goal.iterator-loop g).is_finite l.iterator';
}
