use Rattle.std.proofs.Common.{◌≡◌}
use Rattle.nv_pmem.specs.Runs.{run, grown}
use Rattle.nv_pmem.specs.Steps.{after_line_step, word_in}
use Rattle.nv_pmem.specs.Told.{told_part_history}
use Rattle.nv_pmem.proofs.LineRooms.{front_stores}
use Rattle.nv_pmem.proofs.told.Told.store_line.Given as goal

-- the words before this one are stored
abbrev pub invariant-loop-word : goal.invariant-loop-word
invariant-loop-word l = record {
  history : told_part_history l.self ≡ run (grown after_line_step) (front_stores l.line (word_in l.bytes) l.word) (told_part_history l.initial.self);
  now : l.self.lines.items ≡ run after_line_step (front_stores l.line (word_in l.bytes) l.word) l.initial.self.lines.items;
}
