-- Each part comes out of its slot, whose cell keeps nothing then, and lies behind those before it.
use Rattle.std.proofs.Common.{◌≡◌, ◌+◌, subst, sym, arith}
use Rattle.nv_core.specs.invariant.Rooms.{KeepsReady}
use Rattle.nv_core.specs.state.Passes.{IsOneOf}
use Rattle.nv_core.specs.state.Values.{Value, Bare}
use Rattle.nv_table.specs.steps.Exchanges.{Exchanges}
use Rattle.nv_table.specs.state.SlotValues.{part_value}
use Rattle.nv_table.specs.state.Opened.{Opened}
use Rattle.nv_table.specs.state.Views.{slot_times, values_of}
use Rattle.nv_pages.specs.CommitCalls.{entry_cell}
use Rattle.nv_pages.specs.PageWork.{entry_slot}
use Rattle.nv_pages.proofs.LaidLaws.{entry_still_owned, entry_ready, entry_out, one_out, row_more}
use Rattle.nv_pages.proofs.commits.take_parts.Goals as goal

pub take_part-part-requires-clause-owns_slots : goal.take_part-part-requires-clause-owns_slots
take_part-part-requires-clause-owns_slots g c =
    subst (λ (opened : Opened). slot_times (entry_slot opened.sizes (c.args.first + c.loop-i.i)) c.loop-i.pass.now ≡ 1) c.requires.board.same_mount
    (entry_still_owned c.args.pass.now c.loop-i.pass c.args.first c.args.count c.loop-i.i c.requires.entries (omega arith) c.loop-i.invariant.laid)

pub take_part-part-requires-clause-ready : goal.take_part-part-requires-clause-ready
take_part-part-requires-clause-ready g c =
    subst (λ (opened : Opened). (value : Value) → IsOneOf c.loop-i.pass.now (entry_slot opened.sizes (c.args.first + c.loop-i.i), value) → KeepsReady opened.sizes value) c.requires.board.same_mount
    (entry_ready c.args.pass.now c.loop-i.pass c.args.first c.args.count c.loop-i.i c.requires.entries (omega arith) c.loop-i.invariant.laid)

pub loop-i-preserved : goal.loop-i-preserved
loop-i-preserved g c =
    let shown = part_value g.L.Lines.device g.L.Lines.history g.L.Lines.fault_count g.L.Lines.room in
    let moved : Exchanges (entry_slot c.args.pass.now.view.opened.sizes (c.args.first + c.loop-i.i)) (shown c.take_part-part.result) Bare c.loop-i.pass c.take_part-part.new.pass =
    subst (λ (opened : Opened). Exchanges (entry_slot opened.sizes (c.args.first + c.loop-i.i)) (shown c.take_part-part.result) Bare c.loop-i.pass c.take_part-part.new.pass) (sym c.requires.board.same_mount) c.take_part-part.ensures in
    record {
      laid = one_out c.args.pass.now c.loop-i.pass c.args.first c.args.count c.loop-i.i c.requires.entries (omega arith) c.loop-i.invariant.laid c.take_part-part.new.pass (shown c.take_part-part.result) moved;
      count = omega arith;
      parts = row_more shown c.loop-i.parts.items c.push_reserved.new.self.items c.take_part-part.result (λ i. values_of c.args.pass.now.view (entry_cell c.args.pass.now.view.opened.sizes c.args.first i)) c.loop-i.i
          c.push_reserved.ensures.items c.loop-i.invariant.count c.loop-i.invariant.parts
          (entry_out c.args.pass.now c.loop-i.pass c.args.first c.args.count c.loop-i.i c.requires.entries (omega arith) c.loop-i.invariant.laid c.take_part-part.new.pass (shown c.take_part-part.result) moved);
      places = omega arith;
    }
