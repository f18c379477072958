-- While its pass is alone a whole batch is answered by the log.
use Rattle.nv_clean.proofs.clean.try_clean.Goals as goal

pub returns-clause-alone : goal.returns-clause-alone
returns-clause-alone g c =
    let over = c.run.ensures in
    λ knows alone. c.batches_alone_are_answered_by_the_log.ensures c.args.batch c.args.pass.now c.run.new.pass c.run.result c.sees_a_run.ensures.mount knows alone c.requires.idle
    record { idle = over.idle; later = over.later; spare = over.spare; kept = over.kept; over = over.over }
