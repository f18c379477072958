-- By how many they are.
use Rattle.nv_runner.proofs.TryLaws.{batches_follow, no_batch, one_batch}
use Rattle.nv_runner.proofs.laws.batches_come_one_by_one.Goals as goal

pub returns : goal.returns
returns c = record { none = no_batch; one = one_batch; follow = batches_follow }
