-- The sync of the descriptor's file has made its steps since the pass was idle, and there are fewer and fewer before it.
use Rattle.nv_table.specs.state.States.{IsOf}
use Rattle.nv_mirror.specs.Pageless.{pageless_measure}
use Rattle.nv_calls.specs.fsync.SyncMachines.{IsOfFile}
use Rattle.nv_op.specs.Ops.{call_asked}
use Rattle.nv_calls.proofs.sync.try_fsync.Given as goal

abbrev pub invariant-loop-sync : goal.invariant-loop-sync
invariant-loop-sync g l = record {
  board : IsOf l.mount.board l.pass;
  of : IsOfFile l.mount.fds l.fn.fd l.sync l.initial.pass l.pass;
}

abbrev pub decreases-loop-sync : goal.decreases-loop-sync
decreases-loop-sync g l = pageless_measure l.sync.control

abbrev pub ghosts-advance : goal.ghosts-advance
ghosts-advance g a = record { call = call_asked a.self.now.asked }
