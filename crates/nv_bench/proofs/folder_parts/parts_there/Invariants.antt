use Rattle.std.proofs.Common.{◌≡◌, sum_by}
use Rattle.nv_pmem.specs.FilePart.{part_faults}
use Rattle.nv_bench.proofs.folder_parts.parts_there.Given as goal

abbrev pub invariant-loop-i : goal.invariant-loop-i
invariant-loop-i g l = sum_by part_faults l.parts.items ≡ 0
