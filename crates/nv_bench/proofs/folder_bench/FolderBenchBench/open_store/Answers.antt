use Rattle.std.proofs.Common.{ap, arith}
use Rattle.nv_bench.specs.Benches.{BenchState}
use Rattle.nv_bench.proofs.folder_bench.FolderBenchBench.open_store.Goals as goal

pub returns-in-Ok-clause-counts : goal.returns-in-Ok-clause-counts
returns-in-Ok-clause-counts g c =
    let same = ap (λ (state : BenchState). state.faults) c.in-Ok.ensures.lent in
    omega (arith, same, c.in-Ok.ensures.faults)
