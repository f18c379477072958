use Rattle.std.proofs.Common.{ap, ◌∙◌, arith}
use Rattle.atomic_table.specs.Table.{turned}
use Rattle.nv_table.proofs.steps.TurnLaws.{turned_more}
use Rattle.nv_table.proofs.pass.turn.Goals as goal

pub loop-preserved : goal.loop-preserved
loop-preserved g c =
    let before = c.loop.invariant in
    let after = c.turn.ensures in (
      after.0 ∙ before.0,
      after.1 ∙ before.1,
      omega (arith, before.2, c.loop-test.true),
      after.2 ∙ ap (λ me. (me.0, turned me.1)) before.3
          ∙ ap (λ slots. (c.args.seat.now.me.0, slots)) (turned_more c.loop.counter c.args.seat.now.me.1 (omega (arith, c.loop-test.true, c.requires))),
    )
