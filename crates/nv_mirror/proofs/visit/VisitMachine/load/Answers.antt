use Rattle.nv_mirror.proofs.VisitWays.{visit_carries, visit_loading}
use Rattle.nv_mirror.proofs.visit.VisitMachine.load.Goals as goal

pub returns-clause-way : goal.returns-clause-way
returns-clause-way c list room start now at way = visit_loading c.args.self list start now at way room

pub returns-clause-carries : goal.returns-clause-carries
returns-clause-carries c list start now at way = visit_carries c.args.self list start now at way
