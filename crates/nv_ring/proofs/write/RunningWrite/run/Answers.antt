-- It goes on from its front.
use Rattle.std.proofs.Common.{sym, ap, subst, ◌∙◌}
use Rattle.nv_ring.specs.declared.write.RunningWrite.{RunningWrite}
use Rattle.nv_ring.specs.RunningWrites.{IsUnderWay, asked_in}
use Rattle.nv_ring.proofs.write.RunningWrite.run.Goals as goal

pub returns-in-Front-clause-way : goal.returns-in-Front-clause-way
returns-in-Front-clause-way g c call start way =
    c.pass_front.ensures.way call start (subst (λ (write : RunningWrite). IsUnderWay call write start c.args.pass.now) c.in-Front.is way)

pub returns-in-Front-clause-asks : goal.returns-in-Front-clause-asks
returns-in-Front-clause-asks g c = c.pass_front.ensures.asks ∙ sym (ap (λ (write : RunningWrite). asked_in g.A.Asks.call write c.args.pass.now) c.in-Front.is)
