-- The victim's cell gives its buffer out, and the page's gets it where it lacks one.
use Rattle.std.proofs.Common.{ap, ◌∙◌}
use Rattle.nv_core.specs.state.Words.{PAGE, index}
use Rattle.nv_core.specs.state.Values.{lacks_buffer as lacks}
use Rattle.nv_table.specs.state.SlotValues.{part_value, store_value, slot_value}
use Rattle.nv_pages.proofs.AlterLaws.{at_page, altered_robbed, received_was}
use Rattle.nv_pages.proofs.buffers.move_buffer.Goals as goal

pub returns-clause-moved : goal.returns-clause-moved
returns-clause-moved g c =
    let shown = slot_value (part_value g.L.Lines.device g.L.Lines.history g.L.Lines.fault_count g.L.Lines.room) (store_value g.B.Backing.device g.B.Backing.history g.B.Backing.fault_count) in
    altered_robbed c.args.pass.now c.exchange-robbed.new.pass c.exchange-held.new.pass c.put.new.pass c.put-2.new.pass c.slot_of_page-from.result c.slot_of_page-to.result
    (PAGE c.args.victim) (PAGE c.args.page) (shown c.exchange-robbed.result) (shown c.rob.new.victim) (shown c.exchange-held.result) (shown c.rob.new.page)
    (at_page c.args.board.now c.args.pass.now c.args.victim c.slot_of_page-from.result c.requires.board c.requires.victim c.slot_of_page-from.ensures)
    (at_page c.args.board.now c.args.pass.now c.args.page c.slot_of_page-to.result c.requires.board c.requires.page c.slot_of_page-to.ensures)
    (λ is. c.requires.apart (ap index is))
    c.exchange-robbed.ensures c.exchange-held.ensures c.put.ensures c.put-2.ensures c.rob.ensures.victim c.rob.ensures.page

pub returns-clause-lacks : goal.returns-clause-lacks
returns-clause-lacks g c kept cells owns_slots =
    let shown = slot_value (part_value g.L.Lines.device g.L.Lines.history g.L.Lines.fault_count g.L.Lines.room) (store_value g.B.Backing.device g.B.Backing.history g.B.Backing.fault_count) in
    c.is_empty_place-lacks.ensures
    ∙ ap lacks (received_was c.args.pass.now c.exchange-robbed.new.pass c.exchange-held.new.pass c.put.new.pass c.put-2.new.pass c.slot_of_page-from.result c.slot_of_page-to.result
    (PAGE c.args.victim) (PAGE c.args.page) (shown c.exchange-robbed.result) (shown c.rob.new.victim) (shown c.exchange-held.result) (shown c.rob.new.page)
    (at_page c.args.board.now c.args.pass.now c.args.victim c.slot_of_page-from.result c.requires.board c.requires.victim c.slot_of_page-from.ensures)
    (at_page c.args.board.now c.args.pass.now c.args.page c.slot_of_page-to.result c.requires.board c.requires.page c.slot_of_page-to.ensures)
    (λ is. c.requires.apart (ap index is))
    c.exchange-robbed.ensures c.exchange-held.ensures c.put.ensures c.put-2.ensures (shown c.rob.new.page) c.rob.ensures.page kept cells owns_slots)
