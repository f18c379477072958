use Rattle.nv_table.specs.state.SlotValues.{part_value, store_value, slot_value}
use Rattle.nv_table.proofs.passes.BetweenLaws.{bare_held}
use Rattle.nv_table.proofs.pass.Pass.bare_is_still.Goals as goal

pub returns : goal.returns
returns g c =
    bare_held (slot_value (part_value g.L.Lines.device g.L.Lines.history g.L.Lines.fault_count g.L.Lines.room) (store_value g.B.Backing.device g.B.Backing.history g.B.Backing.fault_count))
    c.self.inside.seat.table_id c.self.inside.seat.me _ c.args.self.now c.self.view_is c.self.invariant.0.each
