use Rattle.nv_schedule.proofs.LifeLaws.{schedules_leave_lives}
use Rattle.nv_schedule.proofs.laws.schedules_leave_lives.Goals as goal

pub returns : goal.returns
returns c = schedules_leave_lives
