use Rattle.std.proofs.Common.{◌≡◌, ◌+◌, ◌++◌, List, [], length, vec_capacity, get_or, map, refl, sym, ap, subst, ◌∙◌, arith}
use Rattle.std.specs.Mem.Slots.{slots_items, slots_counts}
use Rattle.nv_core.specs.state.Values.{Value}
use Rattle.nv_core.specs.state.Words.{Sizes}
use Rattle.nv_table.specs.ends.Begun.{BeganFilled}
use Rattle.nv_table.specs.passes.PassesMade.{PutsBack}
use Rattle.nv_table.specs.state.SlotValues.{part_value, store_value, slot_value}
use Rattle.nv_table.specs.state.Keys.{opened_of, sizes_of}
use Rattle.nv_table.specs.state.Layout.{slot_total}
use Rattle.nv_table.specs.state.Opened.{Opened}
use Rattle.nv_table.specs.ends.OpeningSlots.{parts_in, stores_in}
use Rattle.nv_table.specs.invariant.BetweenSteps.{HasPlacesBack}
use Rattle.nv_table.specs.state.Views.{Past, PassView, made_of, slot_times}
use Rattle.nv_table.specs.state.States.{BoardState, PassState}
use Rattle.nv_table.specs.ends.CompleteRuns.{IsCompleteRun}
use Rattle.nv_table.specs.declared.slot.Slot.{Slot}
use Rattle.nv_table.proofs.passes.BetweenLaws.{puts_number, puts_made, puts_ended, none_shown, owns_slots_none}
use Rattle.nv_table.proofs.ends.CloseLaws.{closes}
use Rattle.nv_table.proofs.ends.ClosedLaws.{in_order, is_closed, number_at, sorted_parts, sorted_stores}
use Rattle.nv_table.proofs.invariant.PassLaws.{same_places}
use Rattle.nv_table.proofs.state.SortLaws.{AreSorted}
use Rattle.nv_table.proofs.board.Board.close.Given.{Over}
use Rattle.nv_table.proofs.board.Board.close.Goals as goal
use Rattle.nv_table.proofs.board.Board.close.Goals.{After-word-tail}

module _ (g : Over) (c : After-word-tail g) where
  abbrev shown : Slot g.row.L.Denot g.row.B.Denot → Value
  shown = slot_value (part_value g.L.Lines.device g.L.Lines.history g.L.Lines.fault_count g.L.Lines.room) (store_value g.B.Backing.device g.B.Backing.history g.B.Backing.fault_count)

  abbrev opened : Opened
  opened = opened_of shown c.self.inside.table.shared.key.value

  abbrev view : PassView
  view = c.pass.inside.seat.me.0

  abbrev last : List (Slot g.row.L.Denot g.row.B.Denot)
  last = slots_items c.close_with-closed.result.slots

  same_view : view ≡ c.put_back.new.pass.view
  same_view = ap (λ (p : PassState). p.view) c.pass.view_is

  -- the whole run, when the table is closed
  whole : IsCompleteRun view (map shown last) c.word-placed.result c.word-tail.result
  whole =
      let cells = c.put_back.ensures.back.0 in
      let back : PutsBack cells c.args.pass.view view = subst (PutsBack cells c.args.pass.view) (sym same_view) c.put_back.ensures.back.1 in
      let zero : view.number ≡ 0 = puts_number cells c.args.pass.view view back ∙ c.requires.zero in
      let keeper = c.pass.invariant.0.keeper zero in
      let all : made_of view ≡ view.seated = keeper.made_is ∙ sym keeper.seated in
      let taken : length view.ended ≡ view.seated =
      ap (length {A = Past}) (puts_ended cells c.args.pass.view view back) ∙ c.requires.all ∙ sym (puts_made cells c.args.pass.view view back c.requires.zero) ∙ all in
      let none : c.pass.inside.seat.me.1 ≡ [] = none_shown shown c.pass.inside.seat.me.1 (ap (λ (p : PassState). p.now) c.pass.view_is ∙ c.put_back.ensures.bare) in
      let bare = owns_slots_none c.passes_are_left_alone.ensures.words view c.pass.invariant.0.mount c.pass.invariant.0.run (λ slot less. sym (c.pass.invariant.0.each slot less) ∙ ap (slot_times slot) none) in
      let ends : IsCompleteRun view (map shown last) (get_or (slots_items c.close_with-closed.result.words) 1 0) (get_or (slots_items c.close_with-closed.result.words) 3 0) =
      closes c.runs_are_sound.ensures.runs c.passes_are_left_alone.ensures.own shown opened c.pass.inside.seat.id view (slots_items c.close_with-closed.result.words) last
      c.close_with-closed.ensures.values.2 c.pass.invariant.0.live zero all taken bare in
      subst (λ n. IsCompleteRun view (map shown last) n c.word-tail.result) (number_at (slots_items c.close_with-closed.result.words) 1 c.word-placed.result c.word-placed.ensures)
      (subst (IsCompleteRun view (map shown last) (get_or (slots_items c.close_with-closed.result.words) 1 0)) (number_at (slots_items c.close_with-closed.result.words) 3 c.word-tail.result c.word-tail.ensures) ends)

  -- the sizes are those of the key
  began : BeganFilled opened.sizes c.self.inside.table.shared.key.value.slots.items
  began = subst (λ sizes. BeganFilled sizes c.self.inside.table.shared.key.value.slots.items) c.self.invariant.0 c.self.invariant.3

  many : length last ≡ slot_total opened.sizes
  many =
      let a = (slots_counts c.close_with-closed.result.slots).0 in
      sym a ∙ c.close_with-closed.ensures.counts.1 ∙ c.self.invariant.2 ∙ ap slot_total c.self.invariant.0

  mount_is : view.opened ≡ opened
  mount_is = ap (λ (v : PassView). v.opened) same_view ∙ c.put_back.ensures.board.same_mount ∙ sym (ap (λ (b : BoardState). b.opened) c.self.view_is)

  places : HasPlacesBack opened.sizes c.pass.inside.number c.pass.inside.parts.items (vec_capacity c.pass.inside.parts) c.pass.inside.stores.items (vec_capacity c.pass.inside.stores)
  places = same_places (sym mount_is) c.pass.invariant.1

  zero_is : c.pass.inside.number ≡ 0
  zero_is =
      c.pass.invariant.0.number_is ∙ ap (λ (v : PassView). v.number) same_view
      ∙ puts_number c.put_back.ensures.back.0 c.args.pass.view c.put_back.new.pass.view c.put_back.ensures.back.1 ∙ c.requires.zero

  order : AreSorted (1 + opened.sizes.entries) opened.sizes.files last
  order =
      in_order g.L.Lines.device g.L.Lines.history g.L.Lines.fault_count g.L.Lines.room g.B.Backing.device g.B.Backing.history g.B.Backing.fault_count
      opened c.self.inside.table.shared.key.value.slots.items last began.parts began.stores refl began.are_slots began.many_parts began.many_stores many
      view mount_is c.word-placed.result c.word-tail.result whole

pub empty_slots-parts-requires-clause-part_places : goal.empty_slots-parts-requires-clause-part_places
empty_slots-parts-requires-clause-part_places g c =
    let sizes : Sizes = sizes_of c.self.inside.table.shared.key.value.layout in
    let back : length (parts_in (last g c)) ≡ 1 + sizes.entries = ap length (sorted_parts (1 + sizes.entries) sizes.files (last g c) (order g c)) ∙ (order g c).parts_many in
    omega (arith, back, (places g c).for_parts (zero_is g c))

pub empty_slots-parts-requires-clause-store_places : goal.empty_slots-parts-requires-clause-store_places
empty_slots-parts-requires-clause-store_places g c =
    let sizes : Sizes = sizes_of c.self.inside.table.shared.key.value.layout in
    let back : length (stores_in (last g c)) ≡ sizes.files = ap length (sorted_stores (1 + sizes.entries) sizes.files (last g c) (order g c)) ∙ (order g c).stores_many in
    let none : length c.pass.inside.stores.items ≡ 0 = ap length (places g c).no_store in
    omega (arith, back, none, (places g c).for_stores (zero_is g c))

pub returns : goal.returns
returns g c =
    let at = (goal.at.returns g c).After-word-tail in
    let has = began g at in
    is_closed g.L.Lines.device g.L.Lines.history g.L.Lines.fault_count g.L.Lines.room g.B.Backing.device g.B.Backing.history g.B.Backing.fault_count
    (opened g at) c.self.inside.table.shared.key.value.slots.items (last g at) has.parts has.stores refl has.are_slots has.many_parts has.many_stores (many g at)
    (view g at) (mount_is g at) c.word-placed.result c.word-tail.result (whole g at)
    c.args.self c.args.pass c.put_back.ensures.back.0 c.pass.inside.parts.items c.empty_slots-parts.result.parts.items c.empty_slots-parts.result.stores.items
    (sym (ap (λ (b : BoardState). b.opened) c.self.view_is)) (sym c.put_back.ensures.spare ∙ sym (ap (λ (p : PassState). p.spare) c.pass.view_is))
    (subst (PutsBack c.put_back.ensures.back.0 c.args.pass.view) (sym (same_view g at)) c.put_back.ensures.back.1)
    c.empty_slots-parts.ensures.parts
    (c.empty_slots-parts.ensures.stores ∙ ap (λ (ss : List g.row.B.Denot). ss ++ stores_in (last g at)) (places g at).no_store)
