use Rattle.std.proofs.Common.{◌≡◌, ◌<◌, ℕ, length, map, vec_capacity}
use Rattle.nv_core.specs.state.Values.{Bare}
use Rattle.nv_table.specs.state.SlotValues.{part_value}
use Rattle.nv_table.specs.state.Views.{values_of}
use Rattle.nv_pages.specs.CommitCalls.{entry_cell}
use Rattle.nv_pages.specs.Commits.{HasLaid, in_row}
use Rattle.nv_pages.proofs.commits.take_parts.Given as goal

abbrev pub invariant-loop-i : goal.invariant-loop-i
invariant-loop-i g l = record {
  laid : HasLaid l.fn.first l.i (λ i. Bare) l.fn.pass l.pass;
  count : length l.parts.items ≡ l.i;
  parts : (i : ℕ) → i < l.i
      → in_row (map (part_value g.L.Lines.device g.L.Lines.history g.L.Lines.fault_count g.L.Lines.room) l.parts.items) i ≡ values_of l.fn.pass.view (entry_cell l.fn.pass.view.opened.sizes l.fn.first i);
  places : vec_capacity l.parts ≡ vec_capacity l.fn.parts;
}
