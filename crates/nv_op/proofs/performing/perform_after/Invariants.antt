-- The step is the operation's, after such device calls.
use Rattle.std.specs.Prelude.{None}
use Rattle.nv_op.specs.Ops.{core_op_of}
use Rattle.nv_op.proofs.performing.perform_after.Given as goal

abbrev pub ghosts-perform_by : goal.ghosts-perform_by
ghosts-perform_by g a = record { op = core_op_of a.pass.now.view a.op; opens = None; said = g.W.Says.said }
