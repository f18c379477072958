use Rattle.nv_schedule.proofs.NextKindLaws.{next_is_the_cores}
use Rattle.nv_schedule.proofs.laws.next_steps_are_the_cores.Goals as goal

pub returns : goal.returns
returns c = next_is_the_cores
