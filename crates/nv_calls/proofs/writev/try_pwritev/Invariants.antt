-- It is asked as a vectored write of its parts.
use Rattle.nv_plain.specs.declared.call.FileCall.TheVariants.{Writev}
use Rattle.nv_calls.proofs.writev.try_pwritev.Given as goal

abbrev pub ghosts-writev_as : goal.ghosts-writev_as
ghosts-writev_as g a = record { call = Writev a.file a.at a.parts.now }
