use Rattle.nv_schedule.proofs.BegunLaws.{schedules_begin}
use Rattle.nv_schedule.proofs.laws.schedules_begin_in_order.Goals as goal

pub returns : goal.returns
returns c = schedules_begin
