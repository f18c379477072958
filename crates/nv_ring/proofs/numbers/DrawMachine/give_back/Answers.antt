-- It gives back what it holds.
use Rattle.nv_ring.proofs.WaysLaws.{undrawn_way}
use Rattle.nv_ring.proofs.numbers.DrawMachine.give_back.Goals as goal

pub returns-clause-way : goal.returns-clause-way
returns-clause-way c start now way = undrawn_way c.args.self start now c.in-Refused.refusal c.in-Refused.is way
