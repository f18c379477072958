-- It is asked as a vectored read of its parts.
use Rattle.nv_plain.specs.declared.call.FileCall.TheVariants.{Readv}
use Rattle.nv_calls.proofs.readv.try_preadv.Given as goal

abbrev pub ghosts-readv_as : goal.ghosts-readv_as
ghosts-readv_as g a = record { call = Readv a.file a.at a.parts.now.lens }
