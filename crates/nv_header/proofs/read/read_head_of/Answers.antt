use Rattle.std.proofs.Common.{arith}
use Rattle.std.proofs.lemmas.Bool.Decides.{nat_tests}
use Rattle.nv_pmem.proofs.ReadLaws.{only_read_none, only_read_one}
use Rattle.nv_header.proofs.read.read_head_of.Goals as goal

pub returns-then-is_empty-clause-read : goal.returns-then-is_empty-clause-read
returns-then-is_empty-clause-read g c = only_read_none g.L.Lines.history g.L.Lines.room g.L.Lines.device c.args.parts.now

pub returns-clause-read : goal.returns-clause-read
returns-clause-read g c =
    only_read_one g.L.Lines.history g.L.Lines.room g.L.Lines.device c.args.parts.now 0 c.read_part_of.new.part c.index-parts-0.result (grind (arith, nat_tests))
    c.read_part_of.ensures.history c.read_part_of.ensures.room c.read_part_of.ensures.device
