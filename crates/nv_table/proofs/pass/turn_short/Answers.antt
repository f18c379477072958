use Rattle.std.proofs.Common.{ap, ◌∙◌, ◌++◌, take, drop, arith}
use Rattle.nv_table.proofs.steps.TurnLaws.{once_more}
use Rattle.nv_table.proofs.pass.turn_short.Goals as goal

pub loop-preserved : goal.loop-preserved
loop-preserved c =
    c.turn_once.ensures ∙ ap (λ row. drop 1 row ++ take 1 row) c.loop.invariant
    ∙ once_more c.loop.counter c.args.row.now (omega (arith, c.loop-test.true, c.requires))
