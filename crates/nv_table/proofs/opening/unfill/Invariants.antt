use Rattle.std.proofs.Common.{◌≡◌, length, vec_capacity}
use Rattle.std.specs.Vec.Iter.{into_iter_items, into_iter_len}
use Rattle.nv_table.proofs.ends.UnfillLaws.{HasUnfilled}
use Rattle.nv_table.proofs.opening.unfill.Given as goal

abbrev pub invariant-loop-slot : goal.invariant-loop-slot
invariant-loop-slot g l = record {
  has : HasUnfilled (into_iter_items l.initial.slot-iterator) l.yielded (into_iter_items l.slot-iterator) l.initial.parts.items l.parts.items l.initial.stores.items l.stores.items;
  count : into_iter_len l.slot-iterator ≡ length (into_iter_items l.slot-iterator);
  part_places : vec_capacity l.parts ≡ vec_capacity l.initial.parts;
  store_places : vec_capacity l.stores ≡ vec_capacity l.initial.stores;
}
