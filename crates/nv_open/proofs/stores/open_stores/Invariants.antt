use Rattle.std.proofs.Common.{◌≡◌, ◌+◌, ◌≤◌, true, length, take, vec_len, vec_capacity}
use Rattle.nv_open.specs.Lending.{AreOpened}
use Rattle.nv_open.proofs.stores.open_stores.Given as goal

-- the stores of the names before this one are opened, and there are places for the others
abbrev pub invariant-loop-name : goal.invariant-loop-name
invariant-loop-name g l = record {
  opened : AreOpened g.T.Store.Backing.history g.T.Store.Backing.fault_count (take l.name-index l.fn.names) (g.T.Bench.state l.bench).faults
      (g.T.Bench.state l.fn.bench) (g.T.Bench.state l.bench) l.fn.stores.items l.stores.items;
  is_open : (g.T.Bench.state l.bench).is_open ≡ true;
  places : vec_len l.stores + length l.fn.names ≤ vec_capacity l.stores + l.name-index;
}
