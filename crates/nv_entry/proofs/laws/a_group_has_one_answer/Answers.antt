use Rattle.nv_entry.proofs.OneAnswerLaws.{whole_is_not_bad, is_bad_once}
use Rattle.nv_entry.proofs.laws.a_group_has_one_answer.Goals as goal

pub returns : goal.returns
returns c = record { whole = whole_is_not_bad; bad = is_bad_once }
