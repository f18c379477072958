use Rattle.nv_table.proofs.steps.CallLaws.{fresh_is_idle, parent_is_idle, child_is_idle, taker_is_idle}
use Rattle.nv_table.proofs.laws.passes_stay_between_calls.Goals as goal

pub returns-clause-new : goal.returns-clause-new
returns-clause-new c = fresh_is_idle

pub returns-clause-split : goal.returns-clause-split
returns-clause-split c = λ old new other is idle. (parent_is_idle old new other is idle, child_is_idle old new other is)

pub returns-clause-join : goal.returns-clause-join
returns-clause-join c = λ board old other new of of_other is idle other_idle. taker_is_idle board old other new of of_other is idle other_idle.owned
