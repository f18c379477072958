use Rattle.nv_core.proofs.invariant.HistoryLaws.{histories_go_on}
use Rattle.nv_core.proofs.draw_laws.histories_go_on.Goals as goal

pub returns : goal.returns
returns c = histories_go_on c.runs_are_sound.ensures.runs
