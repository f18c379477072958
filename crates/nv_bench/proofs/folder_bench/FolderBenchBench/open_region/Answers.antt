use Rattle.std.proofs.Common.{arith}
use Rattle.nv_bench.proofs.folder_bench.FolderBenchBench.open_region.Goals as goal

pub returns-in-Ok-clause-counts : goal.returns-in-Ok-clause-counts
returns-in-Ok-clause-counts g c = omega (arith, c.in-Ok.ensures)
