use Rattle.std.proofs.Common.{◌≡◌, ◌<◌, ℕ, get_or, map, sum_by}
use Rattle.nv_pmem.specs.Moments.{Tells}
use Rattle.nv_store.specs.Store.{IsQuietStore}
use Rattle.nv_pmem.specs.Rows.{RowTells}
use Rattle.nv_recover.specs.Changes.{ThroughoutRow}
use Rattle.nv_recover.specs.Standing.{LeaveNoMore}
use Rattle.nv_recover.specs.Telling.{AllTell}
use Rattle.nv_recover.proofs.StoreRows.{RowSynced}
use Rattle.nv_recover.proofs.apply.sync_all.Given as goal

-- the stores before this one are synced
abbrev pub invariant-loop-store : goal.invariant-loop-store
invariant-loop-store g l = record {
  moments : RowTells (map g.B.Backing.history l.fn.stores) (λ was.
      ThroughoutRow (LeaveNoMore was) (map g.B.Backing.history l.fn.stores) (map g.B.Backing.history l.stores));
  synced : RowSynced l.store-index (map g.B.Backing.history l.fn.stores) (map g.B.Backing.history l.stores);
  quiet : (k : ℕ) (d : g.row.B.Denot) → k < l.store-index → Tells (g.B.Backing.history (get_or l.stores k d)) IsQuietStore;
  tells : AllTell (map g.B.Backing.history l.fn.stores) → AllTell (map g.B.Backing.history l.stores);
  faults : sum_by g.B.Backing.fault_count l.stores ≡ sum_by g.B.Backing.fault_count l.fn.stores;
  devices : map g.B.Backing.device l.stores ≡ map g.B.Backing.device l.fn.stores;
}
