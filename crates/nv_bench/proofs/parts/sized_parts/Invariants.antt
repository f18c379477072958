use Rattle.std.proofs.Common.{◌≡◌, ℕ, [], ◌∷◌, map, get_or, sum_by}
use Rattle.std.specs.List.{range_with_len}
use Rattle.nv_plain.specs.Layouts.{mount_layout}
use Rattle.nv_pmem.specs.Limits.{entry_lines}
use Rattle.nv_pmem.specs.Made.{resized}
use Rattle.nv_pmem.specs.MemPart.{part_now, part_faults}
use Rattle.nv_bench.proofs.parts.sized_parts.Given as goal

abbrev pub invariant-loop-i : goal.invariant-loop-i
invariant-loop-i l = record {
  made : map part_now l.made.items
      ≡ resized mount_layout.header_lines (get_or (map part_now l.parts) 0 [])
      ∷ map (λ (i : ℕ). resized (entry_lines l.geometry.page) (get_or (map part_now l.parts) i [])) (range_with_len 1 l.i);
  faults : sum_by part_faults l.made.items ≡ 0;
}
