use Rattle.std.proofs.Common.{◌≡◌, length, ◌+◌, vec_capacity}
use Rattle.nv_table.specs.declared.slot.Slot.TheVariants.{Store}
use Rattle.nv_table.proofs.state.MoveLaws.{HasMoved}
use Rattle.nv_table.proofs.opening.put_stores.Given as goal

abbrev pub invariant-loop-store : goal.invariant-loop-store
invariant-loop-store g l = record {
  moved : HasMoved Store l.fn.stores.items l._store l.fn.slots.items l.slots.items l.stores.items;
  len : length l.slots.items ≡ length l.fn.slots.items + l._store;
  places : vec_capacity l.slots ≡ vec_capacity l.fn.slots;
  store_places : vec_capacity l.stores ≡ vec_capacity l.fn.stores;
}
