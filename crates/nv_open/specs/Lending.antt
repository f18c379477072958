-- Lending: what a bench lends where a region and the stores of its files are opened, and what it is then.
use Rattle.std.specs.Prelude.{◌≡◌, ℕ, ◌+◌, ◌≤◌, List, [], ◌++◌, length, map, take, fold, sum_by, All, None, IfSome, option_map}
use Rattle.nv_plain.specs.Faults.{Rose, saturated}
use Rattle.nv_pmem.specs.RowStates.{AreNow}
use Rattle.nv_store.specs.Steps.{StoreHistory}
use Rattle.nv_store.specs.Store.{Store}
use Rattle.nv_bench.specs.Benches.{BenchState, with_faults, region_lent}
use Rattle.nv_bench.specs.Holding.{Holding, NamedStore, store_of, without_store}
use Rattle.nv_bench.specs.declared.bench.BenchError.{BenchError}
use Rattle.nv_bench.specs.declared.bench.BenchError.TheVariants.{Failed, NoMemory}

-- the stores of these names, in their order; an empty one, where there is none
abbrev pub stores_named : List (List ℕ) → List NamedStore → List Store
stores_named names stores = map (λ name. store_of name stores) names

-- the other stores
abbrev pub without_stores : List (List ℕ) → List NamedStore → List NamedStore
without_stores names stores = fold (λ left name. without_store name left) stores names

-- what is left of a holding
abbrev pub without_named : List (List ℕ) → Holding → Holding
without_named names holding = record { parts = holding.parts; stores = without_stores names holding.stores }

-- the stores of these names are lent too, in this order
abbrev pub stores_lent : List (List ℕ) → BenchState → BenchState
stores_lent names bench = record bench { told = option_map (without_named names) bench.told; lent = bench.lent ++ names }

-- the region is lent, and the stores of these names
abbrev pub all_lent : List (List ℕ) → BenchState → BenchState
all_lent names bench = stores_lent names (region_lent bench)

-- The stores of these names were opened, and stand behind those that were there. The bench's count was this one when they were.
pub record AreOpened {Y : Type 0} (history : Y → StoreHistory) (fault_count : Y → ℕ) (names : List (List ℕ)) (faults : ℕ) (old new : BenchState) (before now : List Y) : Type 0 where
  pub stores : List Y
  pub behind : now ≡ before ++ stores
  pub count : length stores ≡ length names
  pub lent : new ≡ with_faults new.faults (stores_lent names old)
  pub told : IfSome old.told (λ holding. AreNow (map history stores) (stores_named names holding.stores))
  pub untold : old.told ≡ None → All (λ store. history store ≡ []) stores
  pub counts : saturated old.faults ≡ saturated (faults + sum_by fault_count stores)

-- an opening failed only where the bench's count rose
abbrev pub OpeningHasCause : (before now : ℕ) → BenchError → Type 0
OpeningHasCause before now Failed = Rose before now
OpeningHasCause before now NoMemory = now ≡ before

-- The first so many stores were opened, and the next one wasn't, or there was no memory before.
pub record AreBegun {Y : Type 0} (history : Y → StoreHistory) (fault_count : Y → ℕ) (names : List (List ℕ)) (old new : BenchState) (before now : List Y) (error : BenchError) : Type 0 where
  pub number : ℕ
  pub no_more : number ≤ length names
  -- the bench's count before what failed
  pub faults : ℕ
  pub opened : AreOpened history fault_count (take number names) faults old new before now
  pub cause : OpeningHasCause faults new.faults error

-- The stores of some names are lent, and nothing else of the bench is changed but its count. There were so many stores before, and so
-- many now.
pub record HasLentMore (before now : ℕ) (old new : BenchState) : Type 0 where
  pub names : List (List ℕ)
  pub lent : new ≡ with_faults new.faults (stores_lent names old)
  pub one_each : now ≡ before + length names

-- The same, where there were none.
pub record HasLent (count : ℕ) (old new : BenchState) : Type 0 where
  pub names : List (List ℕ)
  pub lent : new ≡ with_faults new.faults (stores_lent names old)
  pub one_each : count ≡ length names
