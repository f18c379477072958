use Rattle.nv_core.proofs.invariant.Reach.{opening_is_sound, events_keep_sound, runs_are_sound_all}
use Rattle.nv_core.proofs.invariant_laws.runs_are_sound.Goals as goal

pub returns : goal.returns
returns c = record {
  opening = opening_is_sound;
  events = events_keep_sound c.groups_follow_steps.ensures.ready;
  runs = runs_are_sound_all c.groups_follow_steps.ensures.ready;
}
