use Rattle.nv_core.proofs.walks.BatchWalked.{batch_is_walked}
use Rattle.nv_core.proofs.invariant_laws.a_batch_is_a_run.Goals as goal

pub returns : goal.returns
returns c = batch_is_walked
