use Rattle.std.proofs.Common.{◌≡◌, take}
use Rattle.nv_trace.proofs.part_list.copied_parts.Given as goal

abbrev pub invariant-loop-part : goal.invariant-loop-part
invariant-loop-part l = l.copy.items ≡ take l.part-index l.fn.parts
