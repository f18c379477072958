use Rattle.nv_table.proofs.passes.BetweenLaws.{imported_pass}
use Rattle.nv_table.proofs.seats.import_view.Goals as goal

pub invariant_of-to : goal.invariant_of-to
invariant_of-to g c =
    rw c.import_view.ensures.imported (
      imported_pass c.to.inside.seat.me.0 c.exported.inside.seat.me.0 c.to.inside.seat.me.1 c.to.inside.number c.to.inside.made c.to.inside.joined c.to.inside.held.items
          (Rattle.std.specs.Vec.vec_capacity c.to.inside.held) c.to.invariant.0,
      c.to.invariant.1,
      c.to.invariant.2,
    )
