-- The batches so far placed nothing.
use Rattle.std.specs.Prelude.{Some}
use Rattle.nv_table.specs.invariant.Idle.{IsIdle, IsLater}
use Rattle.nv_table.specs.state.States.{IsOf}
use Rattle.nv_mirror.specs.Answers.{IsUnplaced}
use Rattle.nv_runner.specs.OpenWrites.{KeepsFaults}
use Rattle.nv_runner.specs.Runs.{GoesOn}
use Rattle.nv_runner.specs.Tries.{HasRunBatches}
use Rattle.nv_runner.proofs.cleaner.clean_until_alone.Given as goal

abbrev pub invariant-loop : goal.invariant-loop
invariant-loop g l = record {
  board : IsOf l.mount.board l.pass;
  idle : IsIdle l.pass;
  later : IsLater l.initial.pass l.pass;
  keeps : KeepsFaults l.initial.pass l.pass;
  on : GoesOn (Some l.batch) 0 l.initial.pass l.pass;
  batches : HasRunBatches (Some l.batch) l.initial.pass l.pass;
  unplaced : IsUnplaced l.initial.pass.view l.pass.view;
  next : (goal.iterator-loop g).can_next l.iterator';
  finite : (goal.iterator-loop g).is_finite l.iterator';
}
