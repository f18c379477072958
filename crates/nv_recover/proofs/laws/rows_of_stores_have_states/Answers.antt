use Rattle.nv_recover.proofs.Present.{are_now_same, rows_have_states}
use Rattle.nv_recover.proofs.laws.rows_of_stores_have_states.Goals as goal

pub returns-clause-some : goal.returns-clause-some
returns-clause-some c = rows_have_states

pub returns-clause-one : goal.returns-clause-one
returns-clause-one c = are_now_same
