use Rattle.std.proofs.Common.{◌≡◌, ◌+◌, ◌≤◌, length}
use Rattle.nv_plain.specs.Layouts.{layout_of}
use Rattle.nv_header.proofs.BlankParts.{AreBlank}
use Rattle.nv_tests.proofs.given.blank_parts.Given as goal

abbrev pub invariant-loop-entry : goal.invariant-loop-entry
invariant-loop-entry l = record {
  count : length l.parts.items ≡ 1 + l._entry;
  each : AreBlank (layout_of l.fn.version) l.geometry.page l.geometry.entries l.parts.items;
}

abbrev pub invariant-loop-lines : goal.invariant-loop-lines
invariant-loop-lines l = record {
  count : 1 + l.fn.geometry.entries ≤ length l.parts.items;
  each : AreBlank (layout_of l.fn.version) l.fn.geometry.page l.fn.geometry.entries l.parts.items;
}
