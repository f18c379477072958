use Rattle.nv_table.specs.state.Keys.{opened_of}
use Rattle.nv_table.proofs.passes.MomentLaws.{looks}
use Rattle.nv_table.proofs.seating.look.Goals as goal

pub load-requires : goal.load-requires
load-requires g c =
    (c.requires.table, c.requires.place, looks g.S.Shown.shown (opened_of g.S.Shown.shown c.args.shared.now.key.value) c.args.shared.now.table_id.slots c.args.seat.now.id c.args.seat.now.me c.requires.live)
