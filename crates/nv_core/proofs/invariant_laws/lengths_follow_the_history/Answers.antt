use Rattle.nv_core.proofs.content.ReachLengths.{lengths_follow}
use Rattle.nv_core.proofs.invariant_laws.lengths_follow_the_history.Goals as goal

pub returns : goal.returns
returns c = lengths_follow c.files_follow_calls.ensures c.groups_follow_steps.ensures.ready
