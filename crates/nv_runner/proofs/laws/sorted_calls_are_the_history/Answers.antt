-- By the counts of the places.
use Rattle.nv_runner.proofs.histories.HistoryLaws.{sorted_are_history}
use Rattle.nv_runner.proofs.laws.sorted_calls_are_the_history.Goals as goal

pub returns : goal.returns
returns c = sorted_are_history
