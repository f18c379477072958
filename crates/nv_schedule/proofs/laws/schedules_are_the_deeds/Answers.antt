use Rattle.nv_schedule.proofs.GrowLaws.{schedule_grows}
use Rattle.nv_schedule.proofs.OrderLaws.{trail_is}
use Rattle.nv_schedule.proofs.laws.schedules_are_the_deeds.Goals as goal

pub returns-clause-grow : goal.returns-clause-grow
returns-clause-grow c = schedule_grows

pub returns-clause-deeds : goal.returns-clause-deeds
returns-clause-deeds c = trail_is
