use Rattle.std.proofs.Common.{◌≡◌, List, length, ap, arith}
use Rattle.std.specs.Vec.Iter.{into_iter_items}
use Rattle.nv_table.specs.declared.slot.Slot.{Slot}
use Rattle.nv_table.specs.ends.OpeningSlots.{parts_in, stores_in}
use Rattle.nv_table.proofs.ends.UnfillLaws.{one_unfilled, part_fits, store_fits}
use Rattle.nv_table.proofs.opening.unfill.Goals as goal

pub take_apart-requires-clause-part_place : goal.take_apart-requires-clause-part_place
take_apart-requires-clause-part_place g c =
    let at = c.loop-slot in
    let fits = part_fits (into_iter_items c.into_iter-slot-iterator.result) at.yielded (into_iter_items at.slot-iterator) (into_iter_items c.next.new.self) c.args.filled.parts.items at.parts.items
    c.args.filled.stores.items at.stores.items c.in-Some.slot at.invariant.has c.in-Some.ensures.steps.0 in
    let all : length (parts_in (into_iter_items c.into_iter-slot-iterator.result)) ≡ length (parts_in c.args.filled.slots.items) =
    ap (λ (slots : List (Slot g.row.L.Denot g.row.B.Denot)). length (parts_in slots)) c.into_iter-slot-iterator.ensures.into_iter_gives.0 in
    omega (arith, fits, all, at.invariant.part_places, c.requires.part_places)

pub take_apart-requires-clause-store_place : goal.take_apart-requires-clause-store_place
take_apart-requires-clause-store_place g c =
    let at = c.loop-slot in
    let fits = store_fits (into_iter_items c.into_iter-slot-iterator.result) at.yielded (into_iter_items at.slot-iterator) (into_iter_items c.next.new.self) c.args.filled.parts.items at.parts.items
    c.args.filled.stores.items at.stores.items c.in-Some.slot at.invariant.has c.in-Some.ensures.steps.0 in
    let all : length (stores_in (into_iter_items c.into_iter-slot-iterator.result)) ≡ length (stores_in c.args.filled.slots.items) =
    ap (λ (slots : List (Slot g.row.L.Denot g.row.B.Denot)). length (stores_in slots)) c.into_iter-slot-iterator.ensures.into_iter_gives.0 in
    omega (arith, fits, all, at.invariant.store_places, c.requires.store_places)

pub loop-slot-preserved : goal.loop-slot-preserved
loop-slot-preserved g c =
    let at = c.loop-slot in
    record {
      has = one_unfilled (into_iter_items c.into_iter-slot-iterator.result) at.yielded (into_iter_items at.slot-iterator) (into_iter_items c.next.new.self) c.args.filled.parts.items at.parts.items
          c.args.filled.stores.items at.stores.items c.in-Some.slot at.invariant.has c.in-Some.ensures.steps.0 c.take_apart.new.parts.items c.take_apart.new.stores.items
          c.take_apart.ensures.parts c.take_apart.ensures.stores;
      count = let was = at.invariant.count in let gone = c.in-Some.ensures.steps.1 in let short = ap length c.in-Some.ensures.steps.0 in omega arith;
      part_places = omega (arith, c.take_apart.ensures.part_places, at.invariant.part_places);
      store_places = omega (arith, c.take_apart.ensures.store_places, at.invariant.store_places);
    }
