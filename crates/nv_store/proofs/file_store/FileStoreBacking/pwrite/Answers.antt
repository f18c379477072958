use Rattle.nv_store.proofs.Untold.{did_untold}
use Rattle.nv_store.proofs.file_store.FileStoreBacking.pwrite.Goals as goal

pub returns-in-Ok-clause-done : goal.returns-in-Ok-clause-done
returns-in-Ok-clause-done g c = did_untold _
