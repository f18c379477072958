use Rattle.nv_store.proofs.Untold.{did_untold}
use Rattle.nv_store.proofs.file_store.FileStoreBacking.sync.Goals as goal

pub returns-clause-done : goal.returns-clause-done
returns-clause-done g c = did_untold _
