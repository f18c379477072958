use Rattle.nv_top.proofs.SaidLemmas.{statuses_tell}
use Rattle.nv_top.proofs.laws.statuses_tell_what_came.Goals as goal

pub returns : goal.returns
returns c = statuses_tell
