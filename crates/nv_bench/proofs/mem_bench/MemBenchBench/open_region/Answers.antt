use Rattle.std.proofs.Common.{List, map, ap, subst, ◌∙◌}
use Rattle.nv_pmem.specs.MemPart.{part_now, part_history}
use Rattle.nv_pmem.specs.Part.{Part}
use Rattle.nv_pmem.specs.RowStates.{AreNow}
use Rattle.nv_bench.proofs.PartLaws.{parts_are_now, parts_are_fresh}
use Rattle.nv_bench.proofs.mem_bench.MemBenchBench.open_region.Goals as goal

pub returns-in-Ok-clause-told : goal.returns-in-Ok-clause-told
returns-in-Ok-clause-told c =
    let parts = c.replace.result.items in
    let Now : List Part → Type 0 = λ now. AreNow (map part_history parts) now in
    let same = ap (λ vec. map part_now vec.items) c.replace.ensures.value in
    subst Now (same ∙ c.in-Ok.ensures.parts) (parts_are_now parts)

pub returns-in-Ok-clause-fresh : goal.returns-in-Ok-clause-fresh
returns-in-Ok-clause-fresh c = parts_are_fresh c.replace.result.items
