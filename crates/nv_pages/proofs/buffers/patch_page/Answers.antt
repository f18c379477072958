-- What was taken out comes back with the bytes over it.
use Rattle.nv_core.specs.state.Words.{PAGE}
use Rattle.nv_core.specs.state.Values.{patched}
use Rattle.nv_table.specs.state.SlotValues.{part_value, store_value, slot_value}
use Rattle.nv_pages.proofs.AlterLaws.{at_page, altered_by}
use Rattle.nv_pages.proofs.buffers.patch_page.Goals as goal

pub returns : goal.returns
returns g c =
    let shown = slot_value (part_value g.L.Lines.device g.L.Lines.history g.L.Lines.fault_count g.L.Lines.room) (store_value g.B.Backing.device g.B.Backing.history g.B.Backing.fault_count) in
    altered_by c.args.pass.now c.exchange-held.new.pass c.put.new.pass c.slot_of_page-slot.result (PAGE c.args.page) (shown c.exchange-held.result) (shown c.lay.new.held)
    (at_page c.args.board.now c.args.pass.now c.args.page c.slot_of_page-slot.result c.requires.board c.requires.page c.slot_of_page-slot.ensures)
    c.exchange-held.ensures c.put.ensures (patched c.args.at c.args.bytes.now) c.lay.ensures
