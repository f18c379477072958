use Rattle.nv_core.proofs.laws_below.files_follow_calls.Goals as goal

pub returns : goal.returns
returns c = record {
  inside = c.write_leaves_its_bytes.ensures.inside;
  outside = c.write_leaves_its_bytes.ensures.outside;
  reach = c.write_leaves_its_bytes.ensures.reach;
  pieces = c.write_is_its_pieces.ensures;
  goes_on = c.history_goes_on.ensures.files;
  legally = c.history_goes_on.ensures.legal;
  count = c.history_goes_on.ensures.count;
  made = c.calls_are_made_right.ensures.calls;
  made_histories = c.calls_are_made_right.ensures.histories;
  made_on = c.calls_are_made_right.ensures.goes_on;
  moves = c.calls_move_positions.ensures.moves;
}
