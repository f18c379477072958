-- Benches: what contracts see of one, and what each call makes of that.
use Rattle.std.specs.Prelude.{ℕ, ◌+◌, ◌-◌, ◌^◌, Bool, true, false, List, [], ◌∷◌, ◌++◌, Option, None, option_map, slice_index_or}
use Rattle.nv_plain.specs.Faults.{saturated}
use Rattle.nv_pmem.specs.Part.{Part}
use Rattle.nv_pmem.specs.declared.picker.Pick.{Pick}
use Rattle.nv_store.specs.Store.{Store}
use Rattle.nv_bench.specs.Holding.{Holding, named_stores, without_store}
use Rattle.nv_bench.specs.Powered.{powered}

pub record BenchState : Type 0 where
  -- what its devices at home hold; none where it doesn't tell
  pub told : Option Holding
  -- its region is lent; and the names of the stores that are, in the order in which they were opened
  pub is_open : Bool
  pub lent : List (List ℕ)
  -- how often its devices at home, those that are gone and its openings have failed: the sum, which stands still at 2^64 - 1
  pub faults : ℕ
  -- how often it was armed, and with which number last
  pub arms : ℕ
  pub armed : ℕ
  -- how often they had failed when power last went off; 2^64 - 1 while it is armed
  pub settled : ℕ
  -- each time that power went off, the last one first: the pick that it went off with
  pub picked : List Pick
  -- and, beside each of them, what it left at home; none where the bench doesn't tell
  pub lefts : List (Option Holding)

-- what its devices at home held when power last went off, as it left them; none where it doesn't tell, or power never went off
abbrev pub left_last : BenchState → Option Holding
left_last bench = slice_index_or bench.lefts 0 None

-- with another count of faults
abbrev pub with_faults : ℕ → BenchState → BenchState
with_faults faults bench = record bench { faults = faults }

-- its region is lent
abbrev pub region_lent : BenchState → BenchState
region_lent bench =
    record bench { told = option_map (λ holding. record { parts = []; stores = holding.stores }) bench.told; is_open = true }

-- and one more store
abbrev pub store_lent : List ℕ → BenchState → BenchState
store_lent name bench = record bench {
  told = option_map (λ holding. record { parts = holding.parts; stores = without_store name holding.stores }) bench.told;
  lent = bench.lent ++ name ∷ [];
}

-- all that was lent is back, and these parts and stores are at home
abbrev pub told_back : List Part → List Store → BenchState → Option Holding
told_back parts stores bench =
    option_map (λ holding. record { parts = parts; stores = holding.stores ++ named_stores bench.lent stores }) bench.told

-- all that was lent is back, with what was told of it and how often it had failed
abbrev pub taken_back : Option Holding → (faults : ℕ) → BenchState → BenchState
taken_back told faults bench =
    record bench { told = told; is_open = false; lent = []; faults = saturated (bench.faults + faults) }

-- the device call of this number from now on, and each later one, is refused
abbrev pub armed_with : ℕ → BenchState → BenchState
armed_with k bench = record bench { arms = bench.arms + 1; armed = k; settled = 2 ^ 64 - 1 }

-- power went off, and left what the bench tells of then
abbrev pub powered_off : Pick → BenchState → BenchState
powered_off pick bench = record bench {
  told = option_map (powered pick) bench.told;
  settled = bench.faults;
  picked = pick ∷ bench.picked;
  lefts = option_map (powered pick) bench.told ∷ bench.lefts;
}
