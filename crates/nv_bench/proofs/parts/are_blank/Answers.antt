use Rattle.std.proofs.Common.{arith}
use Rattle.nv_bench.proofs.PartLaws.{blank_none, blank_some}
use Rattle.nv_bench.proofs.parts.are_blank.Goals as goal

pub returns-in-None : goal.returns-in-None
returns-in-None c = blank_none c.args.parts.now c.in-None.ensures.value

pub returns-in-Some : goal.returns-in-Some
returns-in-Some c = blank_some c.args.parts.now c.in-Some.header.now c.in-Some.ensures.value (omega arith)
