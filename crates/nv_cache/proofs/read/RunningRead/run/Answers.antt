-- It goes on from its front.
use Rattle.std.proofs.Common.{[], sym, ap, subst, ◌∙◌}
use Rattle.nv_cache.specs.declared.read.RunningRead.{RunningRead}
use Rattle.nv_cache.specs.RunningReads.{IsUnderWay, asked_in}
use Rattle.nv_cache.proofs.read.RunningRead.run.Goals as goal

pub returns-in-Front-clause-way : goal.returns-in-Front-clause-way
returns-in-Front-clause-way g c call start way =
    c.pass_front.ensures.way call start (subst (λ (read : RunningRead). IsUnderWay call read c.args.list.now [] start c.args.pass.now) c.in-Front.is way)

pub returns-in-Front-clause-asks : goal.returns-in-Front-clause-asks
returns-in-Front-clause-asks g c = c.pass_front.ensures.asks ∙ sym (ap (λ (read : RunningRead). asked_in g.A.Asks.call read c.args.pass.now) c.in-Front.is)
