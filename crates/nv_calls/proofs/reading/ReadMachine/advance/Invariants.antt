-- It is asked as what it is made as.
use Rattle.nv_cache.specs.RunningReads.{made_call}
use Rattle.nv_calls.proofs.reading.ReadMachine.advance.Given as goal

abbrev pub ghosts-advance_in : goal.ghosts-advance_in
ghosts-advance_in g a = record { call = made_call a.read.now }
