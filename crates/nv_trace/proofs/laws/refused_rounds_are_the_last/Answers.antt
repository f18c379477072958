use Rattle.nv_trace.proofs.RefusedRounds.{refused_rounds_are_the_last}
use Rattle.nv_trace.proofs.laws.refused_rounds_are_the_last.Goals as goal

pub returns : goal.returns
returns c = refused_rounds_are_the_last
