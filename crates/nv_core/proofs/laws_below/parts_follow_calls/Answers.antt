use Rattle.nv_core.proofs.laws_below.parts_follow_calls.Goals as goal

pub returns : goal.returns
returns c = record {
  now = c.images_follow_calls.ensures.now;
  one_image = c.images_follow_calls.ensures.quiet;
  blank = c.images_follow_calls.ensures.blank;
  lines = c.loads_follow_calls.ensures.lines;
  tail_moments = c.the_tail_follows_steps.ensures.moments;
  tail_moved = c.the_tail_follows_steps.ensures.moved;
  tail_quiet = c.the_tail_follows_steps.ensures.quiet;
  group_atomic = c.groups_follow_steps.ensures.atomic;
  group_open = c.groups_follow_steps.ensures.stay;
  group_only = c.groups_follow_steps.ensures.only;
  group_whole = c.groups_follow_steps.ensures.whole;
  group_quiet = c.groups_follow_steps.ensures.quiet;
  group_ready = c.groups_follow_steps.ensures.ready;
}
