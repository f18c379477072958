-- What contracts see of the stores of a bench in memory.
use Rattle.std.specs.Prelude.{ℕ, ◌+◌, ◌≤◌, List, map, sum_by, string_bytes, vec_len, vec_capacity}
use Rattle.nv_store.specs.MemStore.{store_now, store_faults}
use Rattle.nv_bench.specs.Holding.{NamedStore, named_stores}
use Rattle.nv_bench.specs.declared.bench_stores.BenchStores.{BenchStores}

-- its stores, each under its name
abbrev pub held_stores : BenchStores → List NamedStore
held_stores bench_stores = named_stores (map string_bytes bench_stores.names.items) (map store_now bench_stores.stores.items)

-- how often they have failed
abbrev pub bench_store_faults : BenchStores → ℕ
bench_store_faults bench_stores = sum_by store_faults bench_stores.stores.items

-- there are places for so many more
pub record HasPlaces (more : ℕ) (bench_stores : BenchStores) : Type 0 where
  pub names : vec_len bench_stores.names + more ≤ vec_capacity bench_stores.names
  pub stores : vec_len bench_stores.stores + more ≤ vec_capacity bench_stores.stores
