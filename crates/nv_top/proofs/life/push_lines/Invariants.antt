use Rattle.std.proofs.Common.{◌≡◌, ◌++◌, length, map}
use Rattle.std.specs.Vec.Iter.{into_iter_items, into_iter_len}
use Rattle.nv_top.specs.LifeLines.{line_kept}
use Rattle.nv_top.proofs.life.push_lines.Given as goal

abbrev pub invariant-loop-line : goal.invariant-loop-line
invariant-loop-line l = record {
  shown : map line_kept l.all.items ++ map line_kept (into_iter_items l.line-iterator) ≡ map line_kept l.initial.all.items ++ map line_kept (into_iter_items l.initial.line-iterator);
  count : into_iter_len l.line-iterator ≡ length (into_iter_items l.line-iterator);
}
