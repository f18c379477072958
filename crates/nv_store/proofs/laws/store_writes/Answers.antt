use Rattle.nv_store.proofs.StoreLaws.{whole_after_step, whole_torn, write_is_torn}
use Rattle.nv_store.proofs.WriteLaws.{covered}
use Rattle.nv_store.proofs.laws.store_writes.Goals as goal

pub returns-clause-steps : goal.returns-clause-steps
returns-clause-steps c = whole_after_step

pub returns-clause-torn : goal.returns-clause-torn
returns-clause-torn c = whole_torn

pub returns-clause-made : goal.returns-clause-made
returns-clause-made c = write_is_torn

pub returns-clause-covered : goal.returns-clause-covered
returns-clause-covered c = covered
