use Rattle.nv_load.proofs.ExactLaws.{summaries_are_of_the_load}
use Rattle.nv_load.proofs.laws.fresh_summaries_are_of_the_load.Goals as goal

pub returns : goal.returns
returns c = summaries_are_of_the_load
