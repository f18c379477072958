-- What was taken out comes back as it was.
use Rattle.std.proofs.Common.{refl}
use Rattle.nv_core.specs.state.Words.{PAGE}
use Rattle.nv_table.specs.state.SlotValues.{part_value, store_value, slot_value}
use Rattle.nv_pages.proofs.AlterLaws.{at_page, altered_same}
use Rattle.nv_pages.proofs.buffers.copy_page.Goals as goal

pub returns-clause-same : goal.returns-clause-same
returns-clause-same g c =
    let shown = slot_value (part_value g.L.Lines.device g.L.Lines.history g.L.Lines.fault_count g.L.Lines.room) (store_value g.B.Backing.device g.B.Backing.history g.B.Backing.fault_count) in
    let held = shown c.exchange-held.result in
    altered_same c.args.pass.now c.exchange-held.new.pass c.put.new.pass c.slot_of_page-slot.result (PAGE c.args.page) held held
    (at_page c.args.board.now c.args.pass.now c.args.page c.slot_of_page-slot.result c.requires.board c.requires.page c.slot_of_page-slot.ensures)
    c.exchange-held.ensures c.put.ensures refl
