use Rattle.std.proofs.Common.{◌≡◌, map}
use Rattle.nv_store.specs.MemStore.{store_now, store_faults}
use Rattle.nv_bench.proofs.StoreLaws.{left}
use Rattle.nv_bench.proofs.Through.{Went}
use Rattle.nv_bench.proofs.bench_stores.power_stores.Given as goal

-- the stores before this one have lost power
abbrev pub invariant-loop-store : goal.invariant-loop-store
invariant-loop-store l = record {
  states : Went left l.fn.picker (map store_now l.initial.store-items) l.store-index (map store_now l.store-items) l.picker;
  faults : map store_faults l.store-items ≡ map store_faults l.initial.store-items;
}
