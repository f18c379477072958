-- It is asked as what it is made as.
use Rattle.nv_plain.specs.declared.call.FileCall.TheVariants.{Write}
use Rattle.nv_calls.proofs.write.try_pwrite.Given as goal

abbrev pub ghosts-write_as : goal.ghosts-write_as
ghosts-write_as g a = record { call = Write a.file a.at a.bytes.now }
