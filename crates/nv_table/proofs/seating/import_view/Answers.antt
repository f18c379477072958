use Rattle.nv_table.specs.state.Keys.{opened_of}
use Rattle.nv_table.proofs.invariant.PartLaws.{hears}
use Rattle.nv_table.proofs.seating.import_view.Goals as goal

pub join_seat-requires : goal.join_seat-requires
join_seat-requires g c =
    (c.requires.table, c.requires.exported_table, c.requires.slots, c.requires.place, hears g.S.Shown.shown (opened_of g.S.Shown.shown c.args.shared.now.key.value) c.args.seat.now.id c.args.seat.now.me.0 c.args.exported.id c.args.exported.me.0 c.requires.live c.requires.of_no_pass)
