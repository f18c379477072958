use Rattle.std.proofs.Common.{arith}
use Rattle.nv_table.proofs.steps.TurnLaws.{moved_down, all_moved}
use Rattle.nv_table.proofs.pass.turn_once.Goals as goal

pub loop-i-preserved : goal.loop-i-preserved
loop-i-preserved c = moved_down c.args.row.now c.loop-i.row c.loop-i.i 0 c.loop-i-test.true c.loop-i.invariant

pub returns : goal.returns
returns c = all_moved c.args.row.now c.loop-i.row c.loop-i.i 0 c.requires (omega (arith, c.loop-i-test.false, c.loop-i.auto.i-end)) c.loop-i.invariant
