-- The step is the operation's, and begins what was asked.
use Rattle.nv_op.specs.Ops.{begun_as, core_op_of, opened_by}
use Rattle.nv_op.proofs.performing.perform_asked.Given as goal

abbrev pub ghosts-perform_by : goal.ghosts-perform_by
ghosts-perform_by g a = record { op = core_op_of a.pass.now.view a.op; opens = begun_as g.A.Asks.call (opened_by a.opens); said = λ works. Unit {0} }
