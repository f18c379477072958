use Rattle.std.proofs.Common.{◌≡◌, List, length, map, sum_by, take}
use Rattle.nv_pmem.specs.RowStates.{AreNow}
use Rattle.nv_store.specs.Store.{Store}
use Rattle.nv_store.proofs.reading.read_each.Given as goal

abbrev pub invariant-loop-store : goal.invariant-loop-store
invariant-loop-store g l = record {
  histories : map g.B.Backing.history l.stores ≡ map g.B.Backing.history l.fn.stores;
  devices : map g.B.Backing.device l.stores ≡ map g.B.Backing.device l.fn.stores;
  faults : sum_by g.B.Backing.fault_count l.stores ≡ sum_by g.B.Backing.fault_count l.fn.stores;
  count : length l.all.items ≡ l.store-index;
  bytes : (now : List Store) → AreNow (map g.B.Backing.history l.fn.stores) now
      → map (λ bytes. bytes.items) l.all.items ≡ take l.store-index (map (λ (store : Store). store.seen) now);
}
