-- Going on to the next part is no step.
use Rattle.std.proofs.Common.{◌∙◌}
use Rattle.nv_ring.proofs.write.RunningWrite.advance.Goals as goal

pub returns-clause-asks : goal.returns-clause-asks
returns-clause-asks g c = c.settled.ensures.asks g.A.Asks.call c.step.new.pass ∙ c.step.ensures.asks
