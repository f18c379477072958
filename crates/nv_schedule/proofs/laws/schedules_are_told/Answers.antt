use Rattle.nv_schedule.proofs.CallerShares.{schedules_are_legal, schedules_are_told}
use Rattle.nv_schedule.proofs.ShareLaws.{shares_are_history}
use Rattle.nv_schedule.proofs.laws.schedules_are_told.Goals as goal

pub returns-clause-shares : goal.returns-clause-shares
returns-clause-shares c = shares_are_history

pub returns-clause-told : goal.returns-clause-told
returns-clause-told c = schedules_are_told

pub returns-clause-legal : goal.returns-clause-legal
returns-clause-legal c = schedules_are_legal
