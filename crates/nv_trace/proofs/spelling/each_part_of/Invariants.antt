use Rattle.std.proofs.Common.{◌≡◌, Ok, length, map, take}
use Rattle.nv_trace.specs.Grammar.{each_of, part_of}
use Rattle.nv_trace.proofs.spelling.each_part_of.Given as goal

abbrev pub invariant-loop-field : goal.invariant-loop-field
invariant-loop-field l = record {
  read : each_of part_of (take l.field-index (map (λ field. field.now) l.fields)) ≡ Ok l.parts.items;
  count : length l.parts.items ≡ l.field-index;
}
