use Rattle.nv_schedule.proofs.UncutLaws.{fault_met, schedule_whole}
use Rattle.nv_schedule.proofs.laws.uncut_schedules_meet_no_fault.Goals as goal

pub returns-clause-whole : goal.returns-clause-whole
returns-clause-whole c = schedule_whole

pub returns-clause-met : goal.returns-clause-met
returns-clause-met c = fault_met
