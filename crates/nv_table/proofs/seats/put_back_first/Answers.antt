use Rattle.std.proofs.Common.{◌∙◌, ◌+◌, length, refl, sym, ap, subst}
use Rattle.std.proofs.lemmas.List.{length-map}
use Rattle.std.specs.Vec.{vec_capacity}
use Rattle.nv_core.specs.steps.Ops.{PutBack}
use Rattle.nv_table.specs.state.SlotValues.{part_value, store_value, slot_value}
use Rattle.nv_table.specs.state.Layout.{cell_of}
use Rattle.nv_table.specs.passes.Seats.{PassingTells}
use Rattle.nv_table.specs.state.Views.{PassView}
use Rattle.nv_table.specs.state.States.{PassState}
use Rattle.nv_table.proofs.passes.BetweenLaws.{may_leave, still_held, some_held, popped, left_fewer, left_still, left_pass}
use Rattle.nv_table.proofs.invariant.PassLaws.{same_places, same_inherited}
use Rattle.nv_table.proofs.steps.TurnLaws.{first_slot}
use Rattle.nv_table.proofs.seats.put_back_first.Goals as goal

pub leave-requires-clause-may : goal.leave-requires-clause-may
leave-requires-clause-may g c =
    let shown = slot_value (part_value g.L.Lines.device g.L.Lines.history g.L.Lines.fault_count g.L.Lines.room) (store_value g.B.Backing.device g.B.Backing.history g.B.Backing.fault_count) in
    may_leave shown c.pass.inside.seat.me
    (some_held shown c.pass.inside.seat.table_id c.pass.inside.seat.me c.args.pass.now c.pass.view_is c.requires.some)
    (still_held shown c.pass.inside.seat.table_id c.pass.inside.seat.me c.args.pass.now c.pass.view_is c.requires.still)

pub invariant_of-pass : goal.invariant_of-pass
invariant_of-pass g c =
    let shown = slot_value (part_value g.L.Lines.device g.L.Lines.history g.L.Lines.fault_count g.L.Lines.room) (store_value g.B.Backing.device g.B.Backing.history g.B.Backing.fault_count) in
    let i = c.pass.inside in (
      left_pass shown i.seat.me c.leave.new.seat.me c.leave.result c.leave.ensures.left
          (some_held shown i.seat.table_id i.seat.me c.args.pass.now c.pass.view_is c.requires.some)
          (still_held shown i.seat.table_id i.seat.me c.args.pass.now c.pass.view_is c.requires.still)
          i.number i.made i.joined i.held.items c.pop.new.self.items (vec_capacity i.held) (vec_capacity c.pop.new.self)
          c.pass.invariant.0
          (popped i.held.items c.rotate_left.new.self.items c.pop.new.self.items (Rattle.std.specs.Vec.vec_len c.rotate_left.new.self)
          c.rotate_left.ensures.items c.rotate_left.new.self.ok.0 c.pop.ensures.rest)
          (c.pop.ensures.capacity ∙ c.rotate_left.ensures.capacity),
      same_places (ap (λ (s : PassView). s.opened) c.leave.ensures.left.passed.is) c.pass.invariant.1,
      same_inherited i.seat.me.0 c.leave.new.seat.me.0 (ap (λ (s : PassView). s.opened) c.leave.ensures.left.passed.is) (ap (λ (s : PassView). s.ended) c.leave.ensures.left.passed.is) c.pass.invariant.2,
    )

pub returns-clause-still : goal.returns-clause-still
returns-clause-still g c =
    let shown = slot_value (part_value g.L.Lines.device g.L.Lines.history g.L.Lines.fault_count g.L.Lines.room) (store_value g.B.Backing.device g.B.Backing.history g.B.Backing.fault_count) in
    left_still shown c.pass.inside.seat.me c.leave.new.seat.me c.leave.result c.leave.ensures.left
    (some_held shown c.pass.inside.seat.table_id c.pass.inside.seat.me c.args.pass.now c.pass.view_is c.requires.some)
    (still_held shown c.pass.inside.seat.table_id c.pass.inside.seat.me c.args.pass.now c.pass.view_is c.requires.still)

pub returns-clause-fewer : goal.returns-clause-fewer
returns-clause-fewer g c =
    let shown = slot_value (part_value g.L.Lines.device g.L.Lines.history g.L.Lines.fault_count g.L.Lines.room) (store_value g.B.Backing.device g.B.Backing.history g.B.Backing.fault_count) in
    ap (λ n. n + 1) (length-map c.leave.new.seat.me.1 (λ one. (one.0, shown one.1)))
    ∙ left_fewer shown c.pass.inside.seat.me c.leave.new.seat.me c.leave.result c.leave.ensures.left
    (some_held shown c.pass.inside.seat.table_id c.pass.inside.seat.me c.args.pass.now c.pass.view_is c.requires.some)
    (still_held shown c.pass.inside.seat.table_id c.pass.inside.seat.me c.args.pass.now c.pass.view_is c.requires.still)
    ∙ sym (length-map c.pass.inside.seat.me.1 (λ one. (one.0, shown one.1)))
    ∙ ap (λ (p : PassState). length p.now) c.pass.view_is

pub returns-clause-back : goal.returns-clause-back
returns-clause-back g c =
    let cell = cell_of c.pass.inside.seat.me.0.opened.sizes (first_slot c.pass.inside.seat.me.1) in (
      (cell, c.leave.result),
      (c.leave.new.seat.me.0, subst (λ (view : PassView). PassingTells view (PutBack cell) c.leave.result c.leave.new.seat.me.0) (ap (λ (p : PassState). p.view) c.pass.view_is) c.leave.ensures.left.passed, refl),
    )
