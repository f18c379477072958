-- The sync is under way from where its pass was at first, and there are fewer and fewer steps before it.
use Rattle.nv_table.specs.state.States.{IsOf}
use Rattle.nv_calls.specs.fsync.SyncMachines.{IsSyncUnderWay, measure}
use Rattle.nv_board_tests.proofs.machines.sync_slowly.Given as goal

abbrev pub invariant-loop-result : goal.invariant-loop-result
invariant-loop-result g l = record {
  board : IsOf l.mount.board l.pass;
  way : IsSyncUnderWay l.mount.fds l.sync l.fn.pass l.pass;
}

abbrev pub decreases-loop-result : goal.decreases-loop-result
decreases-loop-result g l = measure l.sync
