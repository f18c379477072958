-- By the one history, and what a closed mount tells of its images.
use Rattle.nv_runner.proofs.ShownLifeLaws.{runs_leave_shown_lives}
use Rattle.nv_runner.proofs.laws.runs_leave_shown_lives.Goals as goal

pub returns : goal.returns
returns c = runs_leave_shown_lives
