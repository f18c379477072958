-- It is asked as what it is made as.
use Rattle.nv_op.specs.Ops.{call_asked}
use Rattle.nv_calls.proofs.syncing.SyncMachine.advance.Given as goal

abbrev pub ghosts-advance : goal.ghosts-advance
ghosts-advance g a = record { call = call_asked a.self.now.asked }
