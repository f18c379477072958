use Rattle.std.proofs.Common.{◌≡◌, List, length, map, sum_by, take}
use Rattle.nv_pmem.specs.RowStates.{AreNow}
use Rattle.nv_store.specs.Store.{Store}
use Rattle.nv_recover.specs.Standing.{files_of}
use Rattle.nv_top.proofs.files.read_files.Given as goal

abbrev pub invariant-loop-store : goal.invariant-loop-store
invariant-loop-store g l = record {
  histories : map g.B.Backing.history l.stores ≡ map g.B.Backing.history l.fn.stores;
  faults : sum_by g.B.Backing.fault_count l.stores ≡ sum_by g.B.Backing.fault_count l.fn.stores;
  count : length l.files.items ≡ l.store-index;
  bytes : (now : List Store) → AreNow (map g.B.Backing.history l.fn.stores) now
      → l.files.items ≡ take l.store-index (files_of now).contents;
}
