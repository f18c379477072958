-- The rounds so far were made, each behind those before it, and some calls are left.
use Rattle.std.proofs.Common.{◌≡◌, ◌+◌, ◌*◌, ◌≤◌, length}
use Rattle.nv_table.specs.state.Views.{made_of}
use Rattle.nv_runner.specs.Lists.{made_calls}
use Rattle.nv_runner.specs.Shifts.{HasRun}
use Rattle.nv_runner.specs.Workers.{IsZero, IsZeroStill}
use Rattle.nv_runner.proofs.RoundLaws.{AreLeft}
use Rattle.nv_runner.proofs.rounds.run_all.Given as goal

abbrev pub invariant-loop-rest : goal.invariant-loop-rest
invariant-loop-rest g l = record {
  zero : IsZero l.mount l.zero;
  still : IsZeroStill l.initial.zero l.zero;
  all_in : length l.zero.view.ended ≡ made_of l.zero.view;
  few : made_of l.zero.view + 9 * length l.rest ≤ 9 * length l.calls;
  run : HasRun l.mount.fds l.batch (made_calls l.answered.items) l.zero;
  left : AreLeft l.calls l.rest (made_calls l.answered.items);
}

abbrev pub decreases-loop-rest : goal.decreases-loop-rest
decreases-loop-rest g l = length l.rest
