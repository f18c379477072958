use Rattle.nv_mirror.proofs.VisitWays.{front_visits}
use Rattle.nv_mirror.proofs.front.FrontMachine.visit.Goals as goal

pub returns-clause-way : goal.returns-clause-way
returns-clause-way c list start now long way = front_visits c.args.self c.in-Read.file c.in-Read.at c.in-Read.len list start now c.in-Read.is c.requires.passed c.requires.read long way
