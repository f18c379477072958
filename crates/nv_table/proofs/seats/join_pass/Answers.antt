use Rattle.std.proofs.Common.{◌∙◌, sym, ap, subst, arith}
use Rattle.nv_table.specs.passes.PassesMade.{PutsBack}
use Rattle.nv_table.specs.state.SlotValues.{part_value, store_value, slot_value}
use Rattle.nv_table.specs.state.Views.{SeesAll, PassView, pass_of, slot_times}
use Rattle.nv_table.specs.state.States.{PassState}
use Rattle.nv_table.proofs.passes.BetweenLaws.{last_taken, puts_number, none_shown, owns_slots_none, few_taken, joined_pass, may_join, passed_in, is_taken_in}
use Rattle.nv_table.proofs.invariant.PassLaws.{same_places, joined_inherited}
use Rattle.nv_table.proofs.passes.KnownLaws.{learns}
use Rattle.nv_table.proofs.seats.join_pass.Goals as goal

pub take_in-requires-clause-other_some : goal.take_in-requires-clause-other_some
take_in-requires-clause-other_some g c = λ none.
    let last = ap (λ (p : PassState). p.view.number) c.other.view_is in
    c.requires.other_number (sym (puts_number c.put_back.ensures.back.0 c.args.other.view c.put_back.new.pass.view c.put_back.ensures.back.1) ∙ sym last ∙ none)

pub take_in-requires-clause-other_bare : goal.take_in-requires-clause-other_bare
take_in-requires-clause-other_bare g c =
    let shown = slot_value (part_value g.L.Lines.device g.L.Lines.history g.L.Lines.fault_count g.L.Lines.room) (store_value g.B.Backing.device g.B.Backing.history g.B.Backing.fault_count) in
    let none = none_shown shown c.other.inside.seat.me.1 (ap (λ (p : PassState). p.now) c.other.view_is ∙ c.put_back.ensures.bare) in
    owns_slots_none c.passes_are_left_alone.ensures.words c.other.inside.seat.me.0 c.other.invariant.0.mount c.other.invariant.0.run
    (λ slot less. sym (c.other.invariant.0.each slot less) ∙ ap (slot_times slot) none)

pub join-requires-clause-may : goal.join-requires-clause-may
join-requires-clause-may g c =
    may_join c.pass.inside.seat.me.0 c.other.inside.seat.me.0 c.take_in.new.seat.me.0 c.pass.inside.seat.me.1 c.pass.inside.number c.pass.inside.made c.pass.inside.joined
    c.pass.inside.held.items (Rattle.std.specs.Vec.vec_capacity c.pass.inside.held) c.pass.invariant.0 (ap (λ me. me.0) c.take_in.ensures.joined)
    (ap (λ (p : PassState). p.view.number) c.pass.view_is ∙ c.requires.zero)
    (ap (λ (p : PassState). (pass_of p.view).left) c.pass.view_is ∙ c.requires.staying)

pub overflow_add-pass : goal.overflow_add-pass
overflow_add-pass g c =
    let zero = ap (λ (p : PassState). p.view.number) c.pass.view_is ∙ c.requires.zero in
    let few = few_taken c.runs_are_sound.ensures.runs c.pass.inside.seat.me.0 c.pass.inside.seat.me.1 c.pass.inside.number c.pass.inside.made c.pass.inside.joined
    c.pass.inside.held.items (Rattle.std.specs.Vec.vec_capacity c.pass.inside.held) c.pass.invariant.0 zero in
    let most = (c.pass.invariant.0.keeper zero).few in
    omega (arith, few, most)

pub invariant_of-pass : goal.invariant_of-pass
invariant_of-pass g c =
    rw (c.join.ensures.slots, c.take_in.ensures.joined) (
      joined_pass c.pass.inside.seat.me.0 c.other.inside.seat.me.0 c.join.new.seat.me.0 c.join.result c.pass.inside.seat.me.1 c.pass.inside.number c.pass.inside.made c.pass.inside.joined
          c.pass.inside.held.items (Rattle.std.specs.Vec.vec_capacity c.pass.inside.held) c.pass.invariant.0
          (passed_in c.pass.inside.seat.me.0 c.other.inside.seat.me.0 c.take_in.new.seat.me.0 c.join.new.seat.me.0 c.join.result (ap (λ me. me.0) c.take_in.ensures.joined) c.join.ensures.passed)
          (ap (λ (p : PassState). p.view.opened) c.other.view_is ∙ c.put_back.ensures.board.same_mount ∙ sym c.requires.board.same_mount ∙ sym (ap (λ (p : PassState). p.view.opened) c.pass.view_is))
          c.other.invariant.0.known.made
          (subst (λ (v : PassView). SeesAll (last_taken v.ended).number (last_taken v.ended).run c.join.new.seat.me.0.run) (ap (λ me. me.0) c.take_in.ensures.joined) c.join.ensures.behind),
      same_places (ap (λ (s : PassView). s.opened) c.join.ensures.passed.is ∙ ap (λ me. me.0.opened) c.take_in.ensures.joined) c.pass.invariant.1,
      c.or_else-pass-inside.ensures
          ∙ joined_inherited c.pass.inside.seat.me.0 c.other.inside.seat.me.0 c.join.new.seat.me.0
          (ap (λ (s : PassView). s.opened) c.join.ensures.passed.is ∙ ap (λ me. me.0.opened) c.take_in.ensures.joined)
          (ap (λ (s : PassView). s.ended) c.join.ensures.passed.is ∙ ap (λ me. me.0.ended) c.take_in.ensures.joined)
          (ap (λ (p : PassState). p.view.opened) c.other.view_is ∙ c.put_back.ensures.board.same_mount ∙ sym c.requires.board.same_mount ∙ sym (ap (λ (p : PassState). p.view.opened) c.pass.view_is))
          c.other.invariant.0.drawn_is c.pass.invariant.2,
    )

pub returns-clause-taken : goal.returns-clause-taken
returns-clause-taken g c =
    let shown = slot_value (part_value g.L.Lines.device g.L.Lines.history g.L.Lines.fault_count g.L.Lines.room) (store_value g.B.Backing.device g.B.Backing.history g.B.Backing.fault_count) in
    is_taken_in shown c.pass.inside.seat.table_id c.join.new.seat.table_id c.pass.inside.seat.me c.join.new.seat.me c.args.pass.now c.args.other c.other.inside.seat.me.0
    c.put_back.ensures.back.0 c.join.result c.pass.view_is
    (subst (λ (p : PassState). PutsBack c.put_back.ensures.back.0 c.args.other.view p.view) (sym c.other.view_is) c.put_back.ensures.back.1)
    (c.join.ensures.table ∙ c.take_in.ensures.table)
    (c.join.ensures.slots ∙ ap (λ me. me.1) c.take_in.ensures.joined)
    (passed_in c.pass.inside.seat.me.0 c.other.inside.seat.me.0 c.take_in.new.seat.me.0 c.join.new.seat.me.0 c.join.result (ap (λ me. me.0) c.take_in.ensures.joined) c.join.ensures.passed)
    (subst (λ (v : PassView). SeesAll (last_taken v.ended).number (last_taken v.ended).run c.join.new.seat.me.0.run) (ap (λ me. me.0) c.take_in.ensures.joined) c.join.ensures.behind)

pub returns-clause-learns : goal.returns-clause-learns
returns-clause-learns g c = learns c.args.pass.now c.args.other _ c.requires.zero (c.requires.other_board.same_mount ∙ sym c.requires.board.same_mount) (returns-clause-taken g c)
