use Rattle.std.proofs.Common.{◌≡◌, length, ◌+◌, vec_capacity}
use Rattle.nv_table.specs.declared.slot.Slot.TheVariants.{Page}
use Rattle.nv_table.proofs.state.MoveLaws.{HasMoved}
use Rattle.nv_table.proofs.opening.put_buffers.Given as goal

abbrev pub invariant-loop-page : goal.invariant-loop-page
invariant-loop-page g l = record {
  moved : HasMoved Page l.fn.buffers.items l._page l.fn.slots.items l.slots.items l.buffers.items;
  len : length l.slots.items ≡ length l.fn.slots.items + l._page;
  places : vec_capacity l.slots ≡ vec_capacity l.fn.slots;
}
