use Rattle.std.proofs.Common.{◌≡◌, map}
use Rattle.nv_pmem.specs.MemPart.{part_now, part_faults}
use Rattle.nv_pmem.specs.Picked.{picked}
use Rattle.nv_bench.proofs.Through.{Went}
use Rattle.nv_bench.proofs.parts.power_parts.Given as goal

-- the parts before this one have lost power
abbrev pub invariant-loop-part : goal.invariant-loop-part
invariant-loop-part l = record {
  states : Went picked l.fn.picker (map part_now l.initial.part-items) l.part-index (map part_now l.part-items) l.picker;
  faults : map part_faults l.part-items ≡ map part_faults l.initial.part-items;
}
