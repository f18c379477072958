use Rattle.std.proofs.Common.{arith}
use Rattle.std.proofs.lemmas.Grind.{common_steps}
use Rattle.nv_top.specs.Shows.{count_text}
use Rattle.nv_top.proofs.summary.push_count.Goals as goal

pub returns : goal.returns
unfolding count_text
returns c = grind (arith, common_steps)
