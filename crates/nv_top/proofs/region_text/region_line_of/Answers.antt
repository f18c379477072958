use Rattle.std.proofs.Common.{arith}
use Rattle.std.proofs.lemmas.Grind.{common_steps}
use Rattle.nv_top.specs.Endings.{region_line}
use Rattle.nv_top.proofs.region_text.region_line_of.Goals as goal

pub returns : goal.returns
unfolding region_line
returns c = grind (arith, common_steps)
