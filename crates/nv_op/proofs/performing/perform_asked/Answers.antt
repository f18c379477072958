-- It begins a call where what it is made as begins.
use Rattle.nv_op.specs.Ops.{opened_by}
use Rattle.nv_op.proofs.OpLaws.{alike_begun}
use Rattle.nv_op.proofs.performing.perform_asked.Goals as goal

pub perform_by-requires-clause-opens : goal.perform_by-requires-clause-opens
perform_by-requires-clause-opens g c = alike_begun g.A.Asks.call (opened_by c.args.opens)
