use Rattle.nv_pmem.specs.Part.{line_of}
use Rattle.nv_pmem.proofs.Rooms.{word_spare}
use Rattle.nv_pmem.proofs.StepLaws.{did_some_none, did_some_all, did_one}
use Rattle.nv_pmem.proofs.mem_part.MemPartLines.store.Goals as goal

pub store-requires-clause-spare : goal.store-requires-clause-spare
store-requires-clause-spare c = word_spare (line_of c.args.self.now.told.lines.items c.args.line) c.args.word c.requires.spare

pub returns-in_err-begin-clause-begun : goal.returns-in_err-begin-clause-begun
returns-in_err-begin-clause-begun c = did_some_none

pub returns-clause-begun : goal.returns-clause-begun
returns-clause-begun c = did_some_all (did_one c.store.ensures.history)

pub returns-clause-done : goal.returns-clause-done
returns-clause-done c = did_one c.store.ensures.history
