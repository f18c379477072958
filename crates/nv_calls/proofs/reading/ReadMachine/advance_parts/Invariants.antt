-- It is asked as a vectored read of its parts.
use Rattle.nv_plain.specs.declared.call.FileCall.TheVariants.{Readv}
use Rattle.nv_core.specs.state.Passes.{at_of, file_of}
use Rattle.nv_cache.specs.RunningReads.{made_call}
use Rattle.nv_calls.proofs.reading.ReadMachine.advance_parts.Given as goal

abbrev pub ghosts-advance_in_parts : goal.ghosts-advance_in_parts
ghosts-advance_in_parts g a = record { call = Readv (file_of (made_call a.read.now)) (at_of (made_call a.read.now)) a.parts.now.lens }
