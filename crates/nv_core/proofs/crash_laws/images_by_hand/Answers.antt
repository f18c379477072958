use Rattle.nv_core.proofs.walks.WalkOpened.{walk_opens_log}
use Rattle.nv_core.proofs.walks.CrashByHandWalked.{images_are_by_hand}
use Rattle.nv_core.proofs.crash_laws.images_by_hand.Goals as goal

pub returns : goal.returns
returns c = images_are_by_hand c.crashes_leave_whole_writes.ensures.runs
    (walk_opens_log c.images_follow_calls.ensures.blank c.loads_follow_calls.ensures.blank c.images_follow_calls.ensures.quiet) c.images_follow_calls.ensures.now
