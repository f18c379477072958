use Rattle.std.proofs.Common.{◌≡◌, ◌+◌, ◌++◌, List, length, take, drop, refl, sym, ap, ap₂, subst, ◌∙◌, arith, take-append-drop, length-append}
use Rattle.std.proofs.lemmas.List.{length-map, length-drop}
use Rattle.nv_core.specs.steps.Opening.{IsMount}
use Rattle.nv_table.specs.declared.slot.Slot.{Slot}
use Rattle.nv_table.specs.state.SlotValues.{part_value, store_value, slot_value}
use Rattle.nv_table.specs.state.Keys.{opened_of, sizes_of}
use Rattle.nv_table.specs.state.Opened.{mount_of}
use Rattle.nv_table.specs.ends.OpeningSlots.{parts_in, stores_in}
use Rattle.nv_table.specs.ends.OpeningWords.{AreOpeningWords}
use Rattle.nv_table.proofs.ends.BeginLaws.{begins, first_pass}
use Rattle.nv_table.proofs.ends.UnfillLaws.{parts_came, stores_came}
use Rattle.nv_table.proofs.board.board_of.Goals as goal
use Rattle.nv_table.proofs.board.board_of.Goals.{After-deref}

pub lay-requires : goal.lay-requires
lay-requires g c =
    begins c.spares_tell_the_room.ensures.room g.L.Lines.device g.L.Lines.history g.L.Lines.fault_count g.L.Lines.room (store_value g.B.Backing.device g.B.Backing.history g.B.Backing.fault_count)
    (record { layout = c.args.layout; next = c.args.next; lengths = c.args.memory.lengths; slots = c.in_ok-slots.field-0.slots })
    c.args.parts.items c.args.stores.items c.deref.result.now c.requires.limits c.requires.stores c.requires.parts c.requires.next c.in_ok-slots.ensures.slots
    (subst (AreOpeningWords (sizes_of c.args.layout) c.args.next c.args.memory.lengths.items) (sym c.deref.ensures.value) c.requires.words)

pub invariant_of-result-in-Ok : goal.invariant_of-result-in-Ok
invariant_of-result-in-Ok g c =
    let shown = slot_value (part_value g.L.Lines.device g.L.Lines.history g.L.Lines.fault_count g.L.Lines.room) (store_value g.B.Backing.device g.B.Backing.history g.B.Backing.fault_count) in
    let opened = opened_of shown (record { layout = c.args.layout; next = c.args.next; lengths = c.args.memory.lengths; slots = c.in_ok-slots.field-0.slots }) in
    let mount : IsMount (mount_of opened) = (lay-requires g (goal.at.invariant_of-result-in-Ok g c).After-deref).mount in
    rw c.in-Ok.ensures.seat (
      first_pass opened c.args.memory.held.items (Rattle.std.specs.Vec.vec_capacity c.args.memory.held) mount c.requires.held c.requires.places,
      record {
        for_parts = λ zero. (let many = 1 + c.args.layout.entries in
            let enough = c.requires.parts.count in
            let all = length-map c.args.parts.items g.L.Lines.room in
            let rest = ap length c.in_ok-slots.ensures.parts in
            let less = length-drop many c.args.parts.items in
            omega (arith, enough, all, rest, less, c.in_ok-slots.ensures.part_places, c.args.parts.ok));
        for_stores = λ zero. omega (arith, c.requires.stores, c.in_ok-slots.ensures.store_places, c.args.stores.ok);
        no_part = λ other. absurd (other refl);
        no_store = c.in_ok-slots.ensures.stores;
      },
      refl,
    )

pub unfill-requires-clause-part_places : goal.unfill-requires-clause-part_places
unfill-requires-clause-part_places g c =
    let many = 1 + c.args.layout.entries in
    let back : length (parts_in c.in-Err.slots.items) ≡ length (take many c.args.parts.items) =
    ap (λ (slots : List (Slot g.row.L.Denot g.row.B.Denot)). length (parts_in slots)) c.in-Err.ensures.none
    ∙ ap length (parts_came (sizes_of c.args.layout) c.args.parts.items c.args.stores.items c.in_ok-slots.field-0.slots.items c.in_ok-slots.ensures.slots) in
    let rest : length c.in_ok-slots.field-0.parts.items ≡ length (drop many c.args.parts.items) = ap length c.in_ok-slots.ensures.parts in
    let both = length-append (take many c.args.parts.items) (drop many c.args.parts.items) in
    let whole = ap length (take-append-drop many c.args.parts.items) in
    omega (arith, back, rest, both, whole, c.in_ok-slots.ensures.part_places, c.args.parts.ok)

pub unfill-requires-clause-store_places : goal.unfill-requires-clause-store_places
unfill-requires-clause-store_places g c =
    let back : length (stores_in c.in-Err.slots.items) ≡ length c.args.stores.items =
    ap (λ (slots : List (Slot g.row.L.Denot g.row.B.Denot)). length (stores_in slots)) c.in-Err.ensures.none
    ∙ ap length (stores_came (sizes_of c.args.layout) c.args.parts.items c.args.stores.items c.in_ok-slots.field-0.slots.items c.in_ok-slots.ensures.slots) in
    let none : length c.in_ok-slots.field-0.stores.items ≡ 0 = ap length c.in_ok-slots.ensures.stores in
    omega (arith, back, none, c.in_ok-slots.ensures.store_places, c.args.stores.ok)

pub returns-clause-parts_back : goal.returns-clause-parts_back
returns-clause-parts_back g c =
    let many = 1 + c.args.layout.entries in
    c.unfill.ensures.parts
    ∙ ap₂ (λ (slots : List (Slot g.row.L.Denot g.row.B.Denot)) (rest : List g.row.L.Denot). parts_in slots ++ rest) c.in-Err.ensures.none c.in_ok-slots.ensures.parts
    ∙ ap (λ (first : List g.row.L.Denot). first ++ drop many c.args.parts.items)
    (parts_came (sizes_of c.args.layout) c.args.parts.items c.args.stores.items c.in_ok-slots.field-0.slots.items c.in_ok-slots.ensures.slots)
    ∙ take-append-drop many c.args.parts.items

pub returns-clause-stores_back : goal.returns-clause-stores_back
returns-clause-stores_back g c =
    c.unfill.ensures.stores
    ∙ ap₂ (λ (rest : List g.row.B.Denot) (slots : List (Slot g.row.L.Denot g.row.B.Denot)). rest ++ stores_in slots) c.in_ok-slots.ensures.stores c.in-Err.ensures.none
    ∙ stores_came (sizes_of c.args.layout) c.args.parts.items c.args.stores.items c.in_ok-slots.field-0.slots.items c.in_ok-slots.ensures.slots
