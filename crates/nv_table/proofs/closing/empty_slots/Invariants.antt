use Rattle.std.proofs.Common.{◌≡◌, ◌<◌, ℕ, false, take, drop, get_or, vec_capacity}
use Rattle.std.specs.Mem.Slots.{slots_items, slots_filled, slots_len}
use Rattle.std.specs.Mem.Slots.Ownership.{Filled}
use Rattle.nv_table.proofs.ends.UnfillLaws.{HasUnfilled}
use Rattle.nv_table.proofs.closing.empty_slots.Given as goal

abbrev pub invariant-loop-slot : goal.invariant-loop-slot
invariant-loop-slot g l = record {
  has : HasUnfilled (slots_items l.initial.closed.slots) (take l.slot (slots_items l.initial.closed.slots)) (drop l.slot (slots_items l.initial.closed.slots))
      l.initial.parts.items l.parts.items l.initial.stores.items l.stores.items;
  items : slots_items l.closed.slots ≡ slots_items l.initial.closed.slots;
  len : slots_len l.closed.slots ≡ slots_len l.initial.closed.slots;
  full : Filled (slots_filled l.closed.slots) l.slot (slots_len l.initial.closed.slots);
  taken : (k : ℕ) → k < l.slot → get_or (slots_filled l.closed.slots) k false ≡ false;
  part_places : vec_capacity l.parts ≡ vec_capacity l.initial.parts;
  store_places : vec_capacity l.stores ≡ vec_capacity l.initial.stores;
}
