-- It is asked as a vectored write of its parts.
use Rattle.nv_plain.specs.declared.call.FileCall.TheVariants.{Writev}
use Rattle.nv_core.specs.state.Passes.{at_of, file_of}
use Rattle.nv_ring.specs.RunningWrites.{made_call}
use Rattle.nv_calls.proofs.writing.WriteMachine.advance_parts.Given as goal

abbrev pub ghosts-advance_in_parts : goal.ghosts-advance_in_parts
ghosts-advance_in_parts g a = record { call = Writev (file_of (made_call a.write.now)) (at_of (made_call a.write.now)) a._parts.now }
