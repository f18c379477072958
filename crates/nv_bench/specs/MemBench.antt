-- What contracts see of devices in memory.
use Rattle.std.specs.Prelude.{◌≡◌, ℕ, ◌+◌, false, List, [], ◌∷◌, map, sum_by, All, Option, None, Some, Vec, string_bytes, refl}
use Rattle.std.specs.Option.{unwrap_or}
use Rattle.std.proofs.Common.{ap, subst}
use Rattle.std.proofs.lemmas.List.Elements.{All-nil, All-cons}
use Rattle.nv_plain.specs.Faults.{saturated}
use Rattle.nv_pmem.specs.MemPart.{part_now, part_faults}
use Rattle.nv_pmem.specs.declared.mem_part.MemPart.{MemPart}
use Rattle.nv_store.specs.Disk.{disk_store}
use Rattle.nv_store.specs.MemStore.{store_now, store_told_whole}
use Rattle.nv_store.specs.Store.{IsWholeStore}
use Rattle.nv_store.specs.declared.mem_store.MemStore.{MemStore}
use Rattle.nv_bench.specs.Benches.{BenchState}
use Rattle.nv_bench.specs.Holding.{Holding, NamedStore, named_stores}
use Rattle.nv_bench.specs.Laws.{AreWholeStores}
use Rattle.nv_bench.specs.Naming.{HasDistinctStores}
use Rattle.nv_bench.specs.BenchStores.{held_stores, bench_store_faults}
use Rattle.nv_bench.specs.declared.bench_stores.BenchStores.{BenchStores}
use Rattle.nv_bench.specs.declared.mem_bench.MemBench.{MemBench}

-- what its devices at home hold
abbrev pub held_by : MemBench → Holding
held_by bench = record { parts = map part_now bench.parts.items; stores = held_stores bench.bench_stores }

-- how often they, and those that are gone, have failed
abbrev pub faults_by : MemBench → ℕ
faults_by bench = saturated (bench.gone + sum_by part_faults bench.parts.items + bench_store_faults bench.bench_stores)

-- what devices held that were noted together, each time
abbrev pub noted_of : {A : Type 0} → List (Vec MemPart A) → List BenchStores → List (Option Holding)
noted_of [] stores = []
noted_of (parts ∷ past) [] = []
noted_of (parts ∷ past) (stores ∷ earlier) = Some (record { parts = map part_now parts.items; stores = held_stores stores }) ∷ noted_of past earlier

-- all that is seen of it; it tells all
abbrev pub mem_state : MemBench → BenchState
mem_state bench = record {
  told = Some (held_by bench);
  is_open = bench.is_open;
  lent = map string_bytes bench.lent.items;
  faults = faults_by bench;
  arms = bench.arms;
  armed = bench.armed;
  settled = bench.settled;
  picked = bench.picked.states;
  lefts = noted_of bench.left_parts.states bench.left_stores.states;
}

-- a bench that holds this, of which nothing was ever lent, armed or powered off, and that has never failed
abbrev pub new_state : Holding → BenchState
new_state holding = record { told = Some holding; is_open = false; lent = []; faults = 0; arms = 0; armed = 0; settled = 0; picked = []; lefts = [] }

-- stores in memory are whole
stores_whole : (names : List (List ℕ)) (stores : List MemStore) → All (λ (named : NamedStore). IsWholeStore named.store) (named_stores names (map store_now stores))
stores_whole [] stores = All-nil (λ (named : NamedStore). IsWholeStore named.store)
stores_whole (name ∷ names) [] = All-nil (λ (named : NamedStore). IsWholeStore named.store)
stores_whole (name ∷ names) (store ∷ stores) =
    All-cons (λ (named : NamedStore). IsWholeStore named.store) (record { name = name; store = store_now store }) (named_stores names (map store_now stores))
    (store_told_whole store (store_now store) (map disk_store store.told.past.states) refl) (stores_whole names stores)

-- and so are those of a bench
pub mem_whole : (bench : MemBench) (holding : Holding) → (mem_state bench).told ≡ Some holding → AreWholeStores holding
mem_whole bench holding told =
    subst AreWholeStores (ap (λ (one : Option Holding). unwrap_or one (held_by bench)) told)
    (stores_whole (map string_bytes bench.bench_stores.names.items) bench.bench_stores.stores.items)

-- their names are kept apart
pub mem_named : (bench : MemBench) → HasDistinctStores (mem_state bench)
mem_named bench = bench.named
