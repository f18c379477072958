use Rattle.nv_pages.proofs.TailLaws.{tail_calls_are_due}
use Rattle.nv_pages.proofs.laws.tail_calls_are_due.Goals as goal

pub returns : goal.returns
returns c = tail_calls_are_due
