use Rattle.nv_top.proofs.TiedLemmas.{fates_are_tied}
use Rattle.nv_top.proofs.laws.fates_are_tied.Goals as goal

pub returns : goal.returns
returns c = fates_are_tied
