-- A pass that has seen STOP keeps it set.
use Rattle.nv_runner.proofs.FaithfulLaws.{nothing_open}
use Rattle.nv_runner.proofs.laws.unstopped_runs_leave_nothing_open.Goals as goal

pub returns : goal.returns
returns c = nothing_open c.runs_are_sound.ensures.runs c.passes_are_left_alone.ensures.own
