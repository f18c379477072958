use Rattle.nv_table.specs.state.Keys.{opened_of}
use Rattle.nv_table.proofs.invariant.PartLaws.{takes_in}
use Rattle.nv_table.proofs.seating.take_in.Goals as goal

pub join_seat-requires : goal.join_seat-requires
join_seat-requires g c =
    let laws = c.laws_of_the_core.ensures in
    (c.requires.table, c.requires.other_table, c.requires.slots, c.requires.place, takes_in g.S.Shown.shown (opened_of g.S.Shown.shown c.args.shared.now.key.value) c.args.seat.now.id c.args.seat.now.me.0 c.args.other.id c.args.other.me.0 laws c.requires.live c.requires.first c.requires.other_live c.requires.other_some c.requires.other_bare c.requires.ended)
