-- It begins the call that it is to begin.
use Rattle.nv_op.specs.Ops.{opened_by}
use Rattle.nv_op.proofs.OpLaws.{alike_self}
use Rattle.nv_op.proofs.performing.perform.Goals as goal

pub perform_by-requires-clause-opens : goal.perform_by-requires-clause-opens
perform_by-requires-clause-opens g c = alike_self (opened_by c.args.opens)
