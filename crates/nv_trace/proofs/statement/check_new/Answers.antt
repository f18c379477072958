use Rattle.std.proofs.Common.{arith}
use Rattle.nv_trace.proofs.Shapes.{place_within}
use Rattle.nv_trace.proofs.statement.check_new.Goals as goal

pub returns-else-place_of-names-clause-follows : goal.returns-else-place_of-names-clause-follows
returns-else-place_of-names-clause-follows c =
    let within = place_within c.args.name.now c.args.trace.now.names in
    (grind arith, grind arith, grind (arith, within), grind arith)
