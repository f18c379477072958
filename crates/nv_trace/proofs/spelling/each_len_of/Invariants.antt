use Rattle.std.proofs.Common.{◌≡◌, Ok, length, map, take}
use Rattle.nv_trace.specs.Grammar.{each_of, largest_count, number_of}
use Rattle.nv_trace.proofs.spelling.each_len_of.Given as goal

abbrev pub invariant-loop-field : goal.invariant-loop-field
invariant-loop-field l = record {
  read : each_of (number_of largest_count) (take l.field-index (map (λ field. field.now) l.fields)) ≡ Ok l.lens.items;
  count : length l.lens.items ≡ l.field-index;
}
