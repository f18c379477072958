-- A batch is run where a worker may.
use Rattle.std.proofs.Common.{sym, subst}
use Rattle.nv_runner.specs.Runs.{GoesOn}
use Rattle.nv_runner.proofs.make.makes_room.Goals as goal

pub returns-in-Again-Some-clause-on : goal.returns-in-Again-Some-clause-on
returns-in-Again-Some-clause-on g c =
    let clean = c.try_clean-cleaned.ensures in
    subst (λ w. GoesOn w 0 c.args.pass.now c.try_clean-cleaned.new.pass) (sym c.in-Again-Some.is-1)
    (c.tries_go_on.ensures.batches c.in-Again-Some.batch c.in-Again-Some.batch c.args.pass.now c.try_clean-cleaned.new.pass c.try_clean-cleaned.result c.requires.idle clean.idle clean.kept clean.over)

pub returns-in-Again-Some-clause-batch : goal.returns-in-Again-Some-clause-batch
returns-in-Again-Some-clause-batch g c = λ ran. record { most = c.in-Again-Some.batch; may = c.in-Again-Some.is-1; came = c.try_clean-cleaned.result; over = c.try_clean-cleaned.ensures.over }
