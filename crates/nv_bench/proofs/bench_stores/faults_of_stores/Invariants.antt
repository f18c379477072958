use Rattle.std.proofs.Common.{◌≡◌, take, sum_by}
use Rattle.nv_plain.specs.Faults.{saturated}
use Rattle.nv_store.specs.MemStore.{store_faults}
use Rattle.nv_bench.proofs.bench_stores.faults_of_stores.Given as goal

abbrev pub invariant-loop-store : goal.invariant-loop-store
invariant-loop-store l = l.faults ≡ saturated (sum_by store_faults (take l.store-index l.stores))
