use Rattle.nv_table.specs.state.Keys.{opened_of}
use Rattle.nv_table.proofs.passes.SeatLaws.{joins_allow}
use Rattle.nv_table.proofs.passing.join.Goals as goal

pub load-requires : goal.load-requires
load-requires g c =
    let laws = c.laws_of_the_core.ensures in
    (c.requires.table, c.requires.place, joins_allow g.S.Shown.shown (opened_of g.S.Shown.shown c.args.shared.now.key.value) c.args.shared.now.table_id.slots c.args.seat.now.id c.args.seat.now.me g.E.Joining.past g.E.Joining.before laws c.requires.live c.requires.may)
