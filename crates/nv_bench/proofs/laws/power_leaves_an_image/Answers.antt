use Rattle.nv_bench.proofs.PowerLaws.{power_leaves}
use Rattle.nv_bench.proofs.laws.power_leaves_an_image.Goals as goal

pub returns : goal.returns
returns c = power_leaves
