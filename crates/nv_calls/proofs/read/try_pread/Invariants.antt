-- It is asked as what it is made as.
use Rattle.std.proofs.Common.{length}
use Rattle.nv_plain.specs.declared.call.FileCall.TheVariants.{Read}
use Rattle.nv_calls.proofs.read.try_pread.Given as goal

abbrev pub ghosts-read_as : goal.ghosts-read_as
ghosts-read_as g a = record { call = Read a.file a.at (length a.list.now) }
