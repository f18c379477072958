use Rattle.std.proofs.Common.{arith}
use Rattle.std.proofs.lemmas.Grind.{common_steps}
use Rattle.nv_top.specs.Shows.{load_text}
use Rattle.nv_top.proofs.summary.push_load.Goals as goal

pub returns : goal.returns
unfolding load_text
returns c = grind (arith, common_steps)
