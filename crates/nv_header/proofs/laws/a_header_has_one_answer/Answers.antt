use Rattle.nv_header.proofs.RefusalLaws.{head_not_refused, one_refusal}
use Rattle.nv_header.proofs.UnreadLaws.{head_not_unread, unread_once}
use Rattle.nv_header.proofs.laws.a_header_has_one_answer.Goals as goal

pub returns : goal.returns
returns c = record { read = head_not_refused; refused = one_refusal; not_unread = head_not_unread; unread = unread_once }
