use Rattle.nv_header.proofs.EmptyLogs.{stands_for_its_stores, empty_log_recovers_nothing}
use Rattle.nv_header.proofs.laws.an_empty_region_stands_for_its_stores.Goals as goal

pub returns : goal.returns
returns c = record { files = stands_for_its_stores; recovered = empty_log_recovers_nothing }
