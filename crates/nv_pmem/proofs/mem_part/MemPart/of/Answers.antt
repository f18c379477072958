use Rattle.std.proofs.Common.{subst, sym}
use Rattle.nv_pmem.specs.Images.{IsQuietPart}
use Rattle.nv_pmem.proofs.MadeLaws.{part_in_quiet, now_of_first}
use Rattle.nv_pmem.proofs.mem_part.MemPart.of.Goals as goal

pub returns-clause-quiet : goal.returns-clause-quiet
returns-clause-quiet c = subst IsQuietPart (sym (now_of_first _ _ _ c.in_ok-of.ensures)) (part_in_quiet c.args.bytes.now)
