-- It is asked as what it is made as.
use Rattle.nv_ring.specs.RunningWrites.{made_call}
use Rattle.nv_calls.proofs.writing.WriteMachine.advance.Given as goal

abbrev pub ghosts-advance : goal.ghosts-advance
ghosts-advance g a = record { call = made_call a.self.now }
