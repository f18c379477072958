use Rattle.std.proofs.Common.{rules, ◌≡◌, ◌<◌, ◌∙◌, ◌+◌, ◌^◌, refl, sym, ap, subst, arith}
use Rattle.nv_table.specs.state.Layout.{slot_total}
use Rattle.nv_table.specs.state.Opened.{Opened}
use Rattle.nv_core.specs.steps.Ops.{Split}
use Rattle.nv_table.specs.passes.Seats.{PassingTells}
use Rattle.nv_table.specs.state.Views.{PassView, made_of}
use Rattle.nv_table.specs.state.States.{BoardState, PassState}
use Rattle.nv_table.proofs.passes.BetweenLaws.{made_fresh, parent_pass, child_pass}
use Rattle.nv_table.proofs.invariant.PassLaws.{same_places, same_inherited}
use Rattle.nv_table.proofs.seats.split_pass.Goals as goal

pub invariant_of-result : goal.invariant_of-result
invariant_of-result g c =
    let zero = ap (λ (p : PassState). p.view.number) c.pass.view_is ∙ c.requires.zero in
    let sizes = ap (λ (p : PassState). p.view.opened.sizes) c.pass.view_is ∙ ap (λ (o : Opened). o.sizes) c.requires.board.same_mount
    ∙ sym (ap (λ (b : BoardState). b.opened.sizes) c.board.view_is) ∙ sym c.board.invariant.0 in
    let total = ap slot_total sizes ∙ sym c.board.invariant.2 ∙ sym c.slot_count.ensures in
    rw (c.part-seat.ensures.child, c.reserve.ensures.items, c.new-held.ensures.items) (
      child_pass c.pass.inside.seat.me.0 c.split.new.seat.me.0 c.split.result c.split.ensures.passed c.pass.inside.seat.me.1 c.pass.inside.number c.pass.inside.made c.pass.inside.joined
          c.pass.inside.held.items (Rattle.std.specs.Vec.vec_capacity c.pass.inside.held) c.pass.invariant.0 zero
          c.runs_are_sound.ensures.runs (Rattle.std.specs.Vec.vec_capacity c.reserve.new.self) (omega (arith, total, c.in_ok-reserve.ensures.ok)),
      record {
        for_parts = λ zero. absurd (omega (arith, zero));
        for_stores = λ zero. absurd (omega (arith, zero));
        no_part = λ other. c.new.ensures.items;
        no_store = c.new-2.ensures.items;
      },
      refl,
    )

pub invariant_of-pass : goal.invariant_of-pass
invariant_of-pass g c =
    let zero = ap (λ (p : PassState). p.view.number) c.pass.view_is ∙ c.requires.zero in
    let made : made_of c.pass.inside.seat.me.0 + 1 < 2 ^ 32 = subst (λ (p : PassState). made_of p.view + 1 < 2 ^ 32) (sym c.pass.view_is) c.requires.few in
    let made_is : made_of c.pass.inside.seat.me.0 ≡ c.pass.inside.made = (c.pass.invariant.0.keeper zero).made_is in
    rw (c.part-seat.ensures.parent, c.split.ensures.slots) (
      parent_pass c.pass.inside.seat.me.0 c.split.new.seat.me.0 c.split.result c.split.ensures.passed c.pass.inside.seat.me.1 c.pass.inside.number c.pass.inside.made c.pass.inside.joined
          c.pass.inside.held.items (Rattle.std.specs.Vec.vec_capacity c.pass.inside.held) c.pass.invariant.0 zero (omega (arith, made, made_is)),
      same_places (ap (λ (s : PassView). s.opened) c.split.ensures.passed.is) c.pass.invariant.1,
      same_inherited c.pass.inside.seat.me.0 c.split.new.seat.me.0 (ap (λ (s : PassView). s.opened) c.split.ensures.passed.is) (ap (λ (s : PassView). s.ended) c.split.ensures.passed.is) c.pass.invariant.2,
    )

pub returns-clause-made : goal.returns-clause-made
returns-clause-made g c =
    let made = subst (λ (p : PassState). PassingTells p.view Split c.split.result c.split.new.seat.me.0) c.pass.view_is c.split.ensures.passed in
    record {
      found = c.split.result;
      middle = c.split.new.seat.me.0;
      made = made;
      fresh = made_fresh c.args.pass.now.view c.split.new.seat.me.0 c.split.result made;
      parent_is = search rules;
      child_is = search rules;
    }
