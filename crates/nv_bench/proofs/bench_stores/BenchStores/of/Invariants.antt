use Rattle.std.proofs.Common.{◌≡◌, map, take}
use Rattle.nv_store.specs.Store.{quiet_store}
use Rattle.nv_bench.specs.BenchStores.{held_stores, bench_store_faults}
use Rattle.nv_bench.proofs.bench_stores.BenchStores.of.Given as goal

abbrev pub invariant-loop-name : goal.invariant-loop-name
invariant-loop-name l = record {
  stores : held_stores l.bench_stores ≡ map (λ named. record { name = named.0.now; store = quiet_store named.1.now }) (take l.name-index l.stores);
  faults : bench_store_faults l.bench_stores ≡ 0;
}
