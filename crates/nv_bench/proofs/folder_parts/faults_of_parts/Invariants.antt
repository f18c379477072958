use Rattle.std.proofs.Common.{◌≡◌, take, sum_by}
use Rattle.nv_plain.specs.Faults.{saturated}
use Rattle.nv_pmem.specs.FilePart.{part_faults}
use Rattle.nv_bench.proofs.folder_parts.faults_of_parts.Given as goal

abbrev pub invariant-loop-part : goal.invariant-loop-part
invariant-loop-part g l = l.faults ≡ saturated (sum_by part_faults (take l.part-index l.parts))
