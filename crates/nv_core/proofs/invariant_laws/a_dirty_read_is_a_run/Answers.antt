use Rattle.nv_core.proofs.walks.DirtyWalked.{dirty_read_is_walked}
use Rattle.nv_core.proofs.invariant_laws.a_dirty_read_is_a_run.Goals as goal

pub returns : goal.returns
returns c = dirty_read_is_walked
