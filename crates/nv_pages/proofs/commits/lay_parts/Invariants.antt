use Rattle.std.proofs.Common.{◌≡◌, ◌++◌, List, length, map, vec_capacity}
use Rattle.nv_table.specs.state.SlotValues.{part_value}
use Rattle.nv_pages.specs.Commits.{HasLaid}
use Rattle.nv_pages.proofs.LaidLaws.{lying}
use Rattle.nv_pages.proofs.commits.lay_parts.Given as goal

abbrev pub invariant-loop-parts : goal.invariant-loop-parts
invariant-loop-parts g l = record {
  laid : HasLaid l.fn.first (length l.fn.parts.items) (lying (map (part_value g.L.Lines.device g.L.Lines.history g.L.Lines.fault_count g.L.Lines.room) l.fn.parts.items) (length l.parts.items)) l.fn.pass l.pass;
  left : (back : List _) × (l.fn.parts.items ≡ l.parts.items ++ back);
  places : vec_capacity l.parts ≡ vec_capacity l.fn.parts;
}

abbrev pub decreases-loop-parts : goal.decreases-loop-parts
decreases-loop-parts g l = length l.parts.items
