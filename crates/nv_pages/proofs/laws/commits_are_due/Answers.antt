use Rattle.nv_pages.proofs.CommitLaws.{commits_are_due}
use Rattle.nv_pages.proofs.laws.commits_are_due.Goals as goal

pub returns : goal.returns
returns c = commits_are_due
