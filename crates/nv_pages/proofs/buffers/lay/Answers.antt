-- The buffer has room for the bytes.
use Rattle.std.proofs.Common.{ap, ◌∙◌}
use Rattle.nv_table.specs.state.SlotValues.{part_value, store_value, slot_value}
use Rattle.nv_table.specs.declared.slot.Slot.TheVariants.{Page as PageSlot}
use Rattle.nv_pages.proofs.buffers.lay.Goals as goal

pub lay_over-requires : goal.lay_over-requires
lay_over-requires g c =
    let shown = slot_value (part_value g.L.Lines.device g.L.Lines.history g.L.Lines.fault_count g.L.Lines.room) (store_value g.B.Backing.device g.B.Backing.history g.B.Backing.fault_count) in
    let buffer = c.in-Page-Some.buffer in
    c.requires record { bytes = buffer.bytes.items; valid = buffer.valid } (ap shown (c.in-Page-Some.is ∙ ap PageSlot c.in-Page-Some.field-0-is))
