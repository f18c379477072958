use Rattle.std.proofs.Common.{arith}
use Rattle.std.proofs.lemmas.Bool.Decides.{nat_tests}
use Rattle.nv_pmem.proofs.ReadLaws.{only_read_none, only_read_one}
use Rattle.nv_header.proofs.read.is_blank.Goals as goal

pub returns-then-is_empty-clause-read : goal.returns-then-is_empty-clause-read
returns-then-is_empty-clause-read g c = only_read_none g.L.Lines.history g.L.Lines.room g.L.Lines.device c.args.parts.now

pub returns-clause-read : goal.returns-clause-read
returns-clause-read g c =
    only_read_one g.L.Lines.history g.L.Lines.room g.L.Lines.device c.args.parts.now 0 c.is_blank_part.new.part c.index-parts-0.result (grind (arith, nat_tests))
    c.is_blank_part.ensures.history c.is_blank_part.ensures.room c.is_blank_part.ensures.device
