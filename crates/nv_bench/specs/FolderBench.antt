-- What contracts see of a bench over a folder. It tells nothing, and is never armed or powered off.
use Rattle.std.specs.Prelude.{◌≡◌, Bool, false, [], map, string_bytes, None, Some}
use Rattle.nv_plain.specs.Faults.{saturated}
use Rattle.nv_bench.specs.Benches.{BenchState}
use Rattle.nv_bench.specs.Holding.{Holding}
use Rattle.nv_bench.specs.Laws.{AreWholeStores}
use Rattle.nv_bench.specs.Naming.{HasDistinctStores}
use Rattle.nv_bench.specs.declared.folder_bench.FolderBench.{FolderBench}

-- a bench that tells nothing, of which nothing was ever lent, and that has never failed
abbrev pub new_folder : BenchState
new_folder = record { told = None; is_open = false; lent = []; faults = 0; arms = 0; armed = 0; settled = 0; picked = []; lefts = [] }

module _ {R : Type 0} where
  -- what is lent of it, and how often its devices and openings have failed
  abbrev pub folder_state : FolderBench R → BenchState
  folder_state bench = record {
    told = None;
    is_open = bench.is_open;
    lent = map string_bytes bench.lent.items;
    faults = saturated bench.faults;
    arms = 0;
    armed = 0;
    settled = 0;
    picked = [];
    lefts = [];
  }

  -- whether it is looked at alone, and makes and writes nothing
  abbrev pub is_read_only : FolderBench R → Bool
  is_read_only bench = bench.is_read_only

  pub folder_whole : (bench : FolderBench R) (holding : Holding) → (folder_state bench).told ≡ Some holding → AreWholeStores holding
  folder_whole bench holding told = cc

  pub folder_named : (bench : FolderBench R) → HasDistinctStores (folder_state bench)
  folder_named bench = tt
