use Rattle.std.proofs.Common.{false, replicate, refl}
use Rattle.nv_pmem.proofs.HeldLines.{holds_settled, settled_held, wide_blank}
use Rattle.nv_pmem.proofs.mem_line.MemLine.settled.Goals as goal

pub invariant_of-result : goal.invariant_of-result
invariant_of-result c = holds_settled false c.args.words.now (replicate 15 (replicate 8 0)) c.told-words refl wide_blank

pub returns : goal.returns
returns c = settled_held c.args.words.now (replicate 15 (replicate 8 0)) c.told-words
