use Rattle.std.proofs.Common.{◌≡◌, ◌+◌, length}
use Rattle.nv_plain.specs.Layouts.{mount_layout}
use Rattle.nv_header.proofs.BlankParts.{AreBlank}
use Rattle.nv_board_tests.proofs.given.blank_parts.Given as goal

abbrev pub invariant-loop-entry : goal.invariant-loop-entry
invariant-loop-entry l = record {
  count : length l.parts.items ≡ 1 + l.entry;
  each : AreBlank mount_layout l.geometry.page l.geometry.entries l.parts.items;
}
