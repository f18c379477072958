use Rattle.std.proofs.Common.{◌≡◌, ◌<◌, false, List, length, get_or, subst, ◌∙◌, ap, arith, get_or-set_same, get_or-set_other, below_more}
use Rattle.std.specs.Mem.Slots.{slots_items, slots_filled, slots_counts}
use mathlib.Core.Option.{some}
use lib.ListN.{get_elem?}
use Rattle.nv_table.specs.declared.slot.Slot.{Slot}
use Rattle.nv_table.proofs.ends.UnfillLaws.{slot_fits, slot_unfilled}
use Rattle.nv_table.proofs.closing.empty_slots.Goals as goal

pub take_apart-requires-clause-part_place : goal.take_apart-requires-clause-part_place
take_apart-requires-clause-part_place g c =
    let at = c.loop-slot in
    let fits = slot_fits (slots_items c.args.closed.slots) at.slot c.args.parts.items at.parts.items c.args.stores.items at.stores.items c.take.result at.invariant.has
    (subst (λ (xs : List (Slot g.row.L.Denot g.row.B.Denot)). get_elem? xs at.slot ≡ some c.take.result) at.invariant.items c.take.ensures.value) in
    omega (arith, fits.0, at.invariant.part_places, c.requires.part_places)

pub take_apart-requires-clause-store_place : goal.take_apart-requires-clause-store_place
take_apart-requires-clause-store_place g c =
    let at = c.loop-slot in
    let fits = slot_fits (slots_items c.args.closed.slots) at.slot c.args.parts.items at.parts.items c.args.stores.items at.stores.items c.take.result at.invariant.has
    (subst (λ (xs : List (Slot g.row.L.Denot g.row.B.Denot)). get_elem? xs at.slot ≡ some c.take.result) at.invariant.items c.take.ensures.value) in
    omega (arith, fits.1, at.invariant.store_places, c.requires.store_places)

pub loop-slot-preserved : goal.loop-slot-preserved
loop-slot-preserved g c =
    let at = c.loop-slot in
    let filled = slots_filled at.closed.slots in
    let others = c.take.ensures.others in
    let there : at.slot < length filled = omega (arith, (slots_counts at.closed.slots).1, at.invariant.len, c.loop-slot-test.true, c.slot_count-slot-end.ensures) in
    record {
      has = slot_unfilled (slots_items c.args.closed.slots) at.slot c.args.parts.items at.parts.items c.args.stores.items at.stores.items c.take.result at.invariant.has
          (subst (λ (xs : List (Slot g.row.L.Denot g.row.B.Denot)). get_elem? xs at.slot ≡ some c.take.result) at.invariant.items c.take.ensures.value)
          c.take_apart.new.parts.items c.take_apart.new.stores.items c.take_apart.ensures.parts c.take_apart.ensures.stores;
      items = others.0 ∙ at.invariant.items;
      len = others.2 ∙ at.invariant.len;
      full = λ k low less. ap (λ fs. get_or fs k false) others.1 ∙ get_or-set_other filled at.slot k false false (λ e. omega (arith, e, low)) ∙ at.invariant.full k (omega (arith, low)) less;
      taken = below_more (λ k. get_or (slots_filled c.take.new.self.slots) k false ≡ false) at.slot
          (λ k less. ap (λ fs. get_or fs k false) others.1 ∙ get_or-set_other filled at.slot k false false (λ e. omega (arith, e, less)) ∙ at.invariant.taken k less)
          (ap (λ fs. get_or fs at.slot false) others.1 ∙ get_or-set_same filled at.slot false false there);
      part_places = omega (arith, c.take_apart.ensures.part_places, at.invariant.part_places);
      store_places = omega (arith, c.take_apart.ensures.store_places, at.invariant.store_places);
    }
