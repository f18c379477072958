use Rattle.nv_clean.proofs.LeftLaws.{batches_by_hand, first_groups_are_retired, refused_batches_clean_nothing, stopped_passes_are_held, stored_stays_stored}
use Rattle.nv_clean.proofs.laws.batches_leave_whole_groups.Goals as goal

pub returns : goal.returns
returns c = record { stop = stopped_passes_are_held; first = first_groups_are_retired; refused = refused_batches_clean_nothing; stored = stored_stays_stored; by_hand = batches_by_hand }
