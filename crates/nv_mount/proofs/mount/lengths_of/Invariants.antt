use Rattle.std.proofs.Common.{◌≡◌, length, map, take, sum_by}
use Rattle.nv_mount.specs.Mounts.{AreLengths}
use Rattle.nv_mount.proofs.mount.lengths_of.Given as goal

-- the stores before this one have told their lengths
abbrev pub invariant-loop-store : goal.invariant-loop-store
invariant-loop-store g l = record {
  histories : map g.B.Backing.history l.stores ≡ map g.B.Backing.history l.fn.stores;
  devices : map g.B.Backing.device l.stores ≡ map g.B.Backing.device l.fn.stores;
  faults : map g.B.Backing.fault_count l.stores ≡ map g.B.Backing.fault_count l.fn.stores;
  sum : sum_by g.B.Backing.fault_count l.stores ≡ sum_by g.B.Backing.fault_count l.fn.stores;
  count : length l.lengths.items ≡ l.store-index;
  told : AreLengths (take l.store-index (map g.B.Backing.history l.fn.stores)) l.lengths.items;
}
