use Rattle.std.proofs.Common.{◌≡◌, ◌≢◌, ◌<◌, ◌++◌, ap, ◌∙◌, sym, subst, arith, drop, take, length, map, slice_index}
use Rattle.std.specs.Prelude.{Some}
use Rattle.nv_table.specs.steps.SeatSteps.{IsFirst}
use Rattle.nv_table.specs.state.SlotValues.{part_value, store_value, slot_value}
use Rattle.nv_table.specs.state.States.{PassState, shown_in}
use Rattle.std.proofs.lemmas.List.{length-map}
use Rattle.nv_table.specs.state.Views.{slot_times}
use Rattle.nv_table.proofs.steps.TurnLaws.{times_shown, map_turned, stands_before, first_from, first_shown}
use Rattle.nv_table.proofs.invariant.PassLaws.{pass_turned}
use Rattle.nv_table.proofs.pass.Pass.bring.Goals as goal

pub turn-requires : goal.turn-requires
turn-requires g c =
    let many : length c.self.inside.seat.me.1 ≡ length c.self.inside.held.items =
    sym (length-map c.self.inside.seat.me.1 (λ one. one.0)) ∙ ap length c.self.invariant.0.written in
    omega (arith, many, c.place_of-place.ensures.within, ap length c.deref.ensures.value)

pub invariant_of-self : goal.invariant_of-self
invariant_of-self g c =
    rw (c.turn.ensures.slots, c.turn_held.ensures.items, c.turn_held.ensures.capacity) (
      pass_turned c.self.inside.seat.me.0 c.self.inside.seat.me.1 c.self.inside.number c.self.inside.made c.self.inside.joined c.self.inside.held.items
          (Rattle.std.specs.Vec.vec_capacity c.self.inside.held) c.place_of-place.result c.self.invariant.0,
      c.self.invariant.1,
      c.self.invariant.2,
    )

pub returns-clause-same : goal.returns-clause-same
returns-clause-same g c =
    let place = c.place_of-place.result in
    let shown = slot_value (part_value g.L.Lines.device g.L.Lines.history g.L.Lines.fault_count g.L.Lines.room) (store_value g.B.Backing.device g.B.Backing.history g.B.Backing.fault_count) in
    record {
      table = c.turn.ensures.table ∙ ap (λ (p : PassState). p.table) c.self.view_is;
      view = ap (λ me. me.0) c.turn.ensures.slots ∙ ap (λ (p : PassState). p.view) c.self.view_is;
      turned = (
        place,
        ap (λ me. shown_in shown me.1) c.turn.ensures.slots
            ∙ map_turned (λ one. (one.0, shown one.1)) place c.self.inside.seat.me.1
            ∙ ap (λ (p : PassState). drop place p.now ++ take place p.now) c.self.view_is,
      );
      spare = ap (λ (p : PassState). p.spare) c.self.view_is;
    }

pub returns-clause-first : goal.returns-clause-first
returns-clause-first g c =
    let place = c.place_of-place.result in
    let slots = c.self.inside.seat.me.1 in
    let shown = slot_value (part_value g.L.Lines.device g.L.Lines.history g.L.Lines.fault_count g.L.Lines.room) (store_value g.B.Backing.device g.B.Backing.history g.B.Backing.fault_count) in
    let held : c.deref.result.now ≡ map (λ one. one.0) slots = c.deref.ensures.value ∙ sym c.self.invariant.0.written in
    let once : slot_times c.args.slot slots ≡ 1 =
    sym (times_shown shown c.args.slot slots) ∙ ap (λ (p : PassState). slot_times c.args.slot p.now) c.self.view_is ∙ c.requires in
    let many : length c.deref.result.now ≡ length slots = ap length held ∙ length-map slots (λ one. one.0) in
    let less : place < length slots = stands_before c.args.slot place slots (λ none. omega (arith, once, none))
    (λ i near. subst (λ all. slice_index all i ≢ c.args.slot) held (c.place_of-place.ensures.before i near))
    (omega (arith, many, c.place_of-place.ensures.within)) in
    let is : slice_index (map (λ one. one.0) slots) place ≡ c.args.slot =
    subst (λ all. slice_index all place ≡ c.args.slot) held (c.place_of-place.ensures.found (omega (arith, many, less))) in
    subst (λ me. IsFirst (Some c.args.slot) (shown_in shown me.1)) (sym c.turn.ensures.slots)
    (first_shown shown c.args.slot (drop place slots ++ take place slots) (first_from c.args.slot place slots (take place slots) less is))
