use Rattle.std.proofs.Common.{◌≡◌, map, take, sum_by}
use Rattle.nv_pmem.specs.Made.{part_in}
use Rattle.nv_pmem.specs.MemPart.{part_now, part_faults}
use Rattle.nv_bench.proofs.parts.parts_of.Given as goal

abbrev pub invariant-loop-bytes : goal.invariant-loop-bytes
invariant-loop-bytes l = record {
  made : map part_now l.made.items ≡ map (λ bytes. part_in bytes.now) (take l.bytes-index l.parts);
  faults : sum_by part_faults l.made.items ≡ 0;
}
