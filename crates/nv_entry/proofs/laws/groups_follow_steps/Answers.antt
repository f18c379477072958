use Rattle.nv_entry.proofs.CommitLaws.{groups_are_atomic, groups_stay_open, groups_store_nothing_else, groups_become_whole, groups_are_loaded, groups_end_quiet}
use Rattle.nv_entry.proofs.RoomSteps.{groups_end_ready}
use Rattle.nv_entry.proofs.laws.groups_follow_steps.Goals as goal

pub returns : goal.returns
returns c = record {
  atomic = groups_are_atomic;
  stay = groups_stay_open;
  only = groups_store_nothing_else;
  whole = groups_become_whole;
  loaded = groups_are_loaded;
  quiet = groups_end_quiet;
  ready = groups_end_ready;
}
