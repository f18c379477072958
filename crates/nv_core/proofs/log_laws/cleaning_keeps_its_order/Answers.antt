use Rattle.nv_core.proofs.log.CleaningOrdered.{no_clean_before_the_store, no_subtract_before_the_clean, no_move_before_the_sync, no_free_before_the_tail}
use Rattle.nv_core.proofs.log_laws.cleaning_keeps_its_order.Goals as goal

pub returns : goal.returns
returns c = record {
  store = no_clean_before_the_store;
  dirty = no_subtract_before_the_clean;
  sync = no_move_before_the_sync;
  tail = no_free_before_the_tail;
}
