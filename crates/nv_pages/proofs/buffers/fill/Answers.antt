-- The buffer has room for the bytes.
use Rattle.std.proofs.Common.{◌≤◌, length, ap, ◌∙◌, arith}
use Rattle.nv_table.specs.state.SlotValues.{part_value, store_value, slot_value}
use Rattle.nv_table.specs.declared.slot.Slot.TheVariants.{Page as PageSlot}
use Rattle.nv_pages.proofs.buffers.fill.Goals as goal

pub copy_from_slice-requires : goal.copy_from_slice-requires
copy_from_slice-requires g c =
    let shown = slot_value (part_value g.L.Lines.device g.L.Lines.history g.L.Lines.fault_count g.L.Lines.room) (store_value g.B.Backing.device g.B.Backing.history g.B.Backing.fault_count) in
    let buffer = c.in-Page-Some.buffer in
    let room : length c.args.bytes.now ≤ length buffer.bytes.items =
    c.requires record { bytes = buffer.bytes.items; valid = buffer.valid } (ap shown (c.in-Page-Some.is ∙ ap PageSlot c.in-Page-Some.field-0-is)) in
    omega (arith, room, c.truncate.ensures.len)
