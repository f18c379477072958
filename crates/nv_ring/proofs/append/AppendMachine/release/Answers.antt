-- It gives back what it holds, and has its place.
use Rattle.std.proofs.Common.{sym, ap₂, subst}
use Rattle.nv_mirror.specs.declared.release.ReleaseMachine.{ReleaseMachine}
use Rattle.nv_mirror.specs.Releases.{IsUnderWay}
use Rattle.nv_ring.specs.Ways.{released_of}
use Rattle.nv_ring.proofs.WaysLaws.{release_way}
use Rattle.nv_ring.proofs.append.AppendMachine.release.Goals as goal

pub returns-clause-way : goal.returns-clause-way
returns-clause-way c start now way = subst (λ (next : ReleaseMachine). IsUnderWay next start now) (sym (ap₂ (λ asked control. record (released_of c.args.self) { asked = asked; control = control }) c.asked.ensures c.first_given.ensures)) (release_way c.args.self start now c.requires.appended way)
