-- It gives back what it holds.
use Rattle.std.proofs.Common.{sym, ap, subst}
use Rattle.nv_mirror.specs.declared.front.FrontMachine.{FrontMachine}
use Rattle.nv_mirror.specs.Fronts.{IsUnderWay}
use Rattle.nv_ring.specs.Ways.{refused_of}
use Rattle.nv_ring.proofs.WaysLaws.{give_back_way}
use Rattle.nv_ring.proofs.append.AppendMachine.give_back.Goals as goal

pub returns-clause-way : goal.returns-clause-way
returns-clause-way c start now way = subst (λ (next : FrontMachine). IsUnderWay next start now) (sym (ap (λ asked. record (refused_of c.args.self c.in-Refused.refusal) { asked = asked }) c.asked.ensures)) (give_back_way c.args.self start now c.in-Refused.refusal c.in-Refused.is way)
