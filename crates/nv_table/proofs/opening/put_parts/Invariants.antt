use Rattle.std.proofs.Common.{◌≡◌, length, ◌+◌, vec_capacity}
use Rattle.nv_table.specs.declared.slot.Slot.TheVariants.{Part}
use Rattle.nv_table.proofs.state.MoveLaws.{HasMoved}
use Rattle.nv_table.proofs.opening.put_parts.Given as goal

abbrev pub invariant-loop-part : goal.invariant-loop-part
invariant-loop-part g l = record {
  moved : HasMoved Part l.fn.parts.items l._part l.fn.slots.items l.slots.items l.parts.items;
  len : length l.slots.items ≡ length l.fn.slots.items + l._part;
  places : vec_capacity l.slots ≡ vec_capacity l.fn.slots;
  part_places : vec_capacity l.parts ≡ vec_capacity l.fn.parts;
}
