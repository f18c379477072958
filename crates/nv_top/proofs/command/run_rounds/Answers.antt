use Rattle.nv_top.proofs.RunsByOptions.{run_not_stopped, run_stopped}
use Rattle.nv_top.proofs.command.run_rounds.Goals as goal

pub returns-in-None : goal.returns-in-None
returns-in-None g c =
    let old = g.T.Bench.state c.args.bench.now in
    let new = g.T.Bench.state c.run_to_end.new.bench in
    let ran = c.run_to_end.ensures in
    run_not_stopped c.args.options c.args.input.now _ _ _ _ _ _ _ _ old new c.run_to_end.result c.in-None.is c.requires.ready ran.back ran.ran

pub returns-in-Some : goal.returns-in-Some
returns-in-Some g c =
    run_stopped c.args.options c.in-Some.k c.args.input.now _ _ _ _ _ _ _ _ _ _ c.run_to_stop.result c.in-Some.is c.run_to_stop.ensures
