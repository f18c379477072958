use Rattle.nv_core.proofs.invariant.ForbiddenStepLaws.{no_place_before_the_fence, no_page_before_the_place, stopped_after_a_fault, no_leader_before_a_follower, no_growth_before_the_place, no_two_writes_of_a_page, no_stop_without_a_fault, no_seizure_of_a_held_entry, no_hold_of_an_unready_entry, no_entry_held_twice, no_other_cleanup, no_draw_past_the_end, no_victim_of_the_call, writes_in_flight_are_apart, no_break_before_stop, no_broken_before_stop, no_batch_past_its_bound, groups_are_passed_by_the_bound}
use Rattle.nv_core.proofs.invariant.DirtyBounds.{no_dirty_above_the_log}
use Rattle.nv_core.proofs.invariant_laws.no_sound_state_allows.Goals as goal

pub returns : goal.returns
returns c = record {
  fence = no_place_before_the_fence;
  page = no_page_before_the_place;
  fault = stopped_after_a_fault;
  leader = no_leader_before_a_follower;
  growth = no_growth_before_the_place;
  writes = no_two_writes_of_a_page;
  apart = writes_in_flight_are_apart;
  breaks = no_break_before_stop;
  broken_ = no_broken_before_stop;
  stop = no_stop_without_a_fault;
  seizure = no_seizure_of_a_held_entry;
  hold = no_hold_of_an_unready_entry;
  twice = no_entry_held_twice;
  cleanup = no_other_cleanup;
  end = no_draw_past_the_end;
  dirty = no_dirty_above_the_log;
  victim = no_victim_of_the_call;
  batch = no_batch_past_its_bound;
  passes = groups_are_passed_by_the_bound;
}
