-- By the shifts, each with what its pass had seen at its end.
use Rattle.nv_runner.proofs.StandLaws.{shifts_stand}
use Rattle.nv_runner.proofs.laws.calls_stand_behind_what_was_seen.Goals as goal

pub returns : goal.returns
returns c = shifts_stand
