use Rattle.nv_table.specs.state.Keys.{opened_of}
use Rattle.nv_table.proofs.passes.MomentLaws.{forgets}
use Rattle.nv_table.proofs.seating.forget.Goals as goal

pub split_seat-requires : goal.split_seat-requires
split_seat-requires g c =
    (c.requires.table, c.requires.place, forgets g.S.Shown.shown (opened_of g.S.Shown.shown c.args.shared.now.key.value) c.args.seat.now.id c.args.seat.now.me.0)
