use Rattle.std.proofs.Common.{ap, ◌∙◌, sym, subst, ◌∷◌}
use Rattle.nv_table.specs.steps.SeatSteps.{IsFirst}
use Rattle.std.specs.Vec.{vec_capacity}
use Rattle.nv_table.specs.invariant.BetweenSteps.{IsPass}
use Rattle.nv_table.specs.state.SlotValues.{part_value, store_value, slot_value}
use Rattle.nv_table.specs.state.States.{PassState, shown_in}
use Rattle.nv_table.specs.steps.Exchanges.{IsExchanged}
use Rattle.nv_table.specs.state.Rotated.{IsTurned}
use Rattle.std.specs.Prelude.{Some}
use Rattle.nv_table.proofs.steps.TurnLaws.{first_held}
use Rattle.nv_table.proofs.steps.ExchangeLaws.{exchanged, pass_exchanged}
use Rattle.nv_table.proofs.invariant.PassLaws.{same_places, same_inherited}
use Rattle.nv_table.proofs.exchanges.exchange.Goals as goal

pub exchange-requires : goal.exchange-requires
exchange-requires g c =
    let shown = slot_value (part_value g.L.Lines.device g.L.Lines.history g.L.Lines.fault_count g.L.Lines.room) (store_value g.B.Backing.device g.B.Backing.history g.B.Backing.fault_count) in (
      ap (λ (p : PassState). p.table) c.pass.view_is ∙ c.bring.ensures.same.table ∙ c.requires.board.same_table ∙ sym (ap (λ b. b.table) c.board.view_is),
      first_held shown c.args.slot c.pass.inside.seat.me.1 (subst (λ (p : PassState). IsFirst (Some c.args.slot) p.now) (sym c.pass.view_is) c.bring.ensures.first),
    )

pub invariant_of-pass : goal.invariant_of-pass
invariant_of-pass g c =
    let i = c.pass.inside in (
      subst (λ me. IsPass me.0 me.1 i.number i.made i.joined i.held.items (vec_capacity i.held) i.drawn i.lost) (sym c.exchange.ensures.3)
          (pass_exchanged i.seat.me.0 c.args.slot c.exchange.result c.args.new (Rattle.atomic_table.specs.Table.rest i.seat.me.1) i.number i.made i.joined i.held.items (vec_capacity i.held)
          (subst (λ slots. IsPass i.seat.me.0 slots i.number i.made i.joined i.held.items (vec_capacity i.held) i.drawn i.lost) c.exchange.ensures.2 c.pass.invariant.0)),
      same_places (ap (λ me. me.0.opened) c.exchange.ensures.3) c.pass.invariant.1,
      same_inherited i.seat.me.0 c.exchange.new.seat.me.0 (ap (λ me. me.0.opened) c.exchange.ensures.3) (ap (λ me. me.0.ended) c.exchange.ensures.3) c.pass.invariant.2,
    )

pub returns : goal.returns
returns g c =
    let shown = slot_value (part_value g.L.Lines.device g.L.Lines.history g.L.Lines.fault_count g.L.Lines.room) (store_value g.B.Backing.device g.B.Backing.history g.B.Backing.fault_count) in
    let behind = Rattle.atomic_table.specs.Table.rest c.pass.inside.seat.me.1 in
    let turned : IsTurned c.args.pass.now.now (shown_in shown ((c.args.slot, c.exchange.result) ∷ behind)) =
    subst (λ slots. IsTurned c.args.pass.now.now (shown_in shown slots)) c.exchange.ensures.2
    (subst (λ (p : PassState). IsTurned c.args.pass.now.now p.now) (sym c.pass.view_is) c.bring.ensures.same.turned) in
    record {
      table = c.exchange.ensures.0 ∙ ap (λ (p : PassState). p.table) c.pass.view_is ∙ c.bring.ensures.same.table;
      view = ap (λ me. me.0) c.exchange.ensures.3 ∙ ap (λ (p : PassState). p.view) c.pass.view_is ∙ c.bring.ensures.same.view;
      slots = subst (λ me. IsExchanged c.args.slot (shown c.exchange.result) (shown c.args.new) c.args.pass.now.now (shown_in shown me.1)) (sym c.exchange.ensures.3)
          (exchanged shown c.args.slot c.exchange.result c.args.new behind c.args.pass.now.now turned c.requires.owns_slots);
      spare = ap (λ (p : PassState). p.spare) c.pass.view_is ∙ c.bring.ensures.same.spare;
    }
