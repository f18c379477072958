use Rattle.std.proofs.Common.{◌≤◌, List, map, length, refl, ap, ◌∙◌, arith}
use Rattle.std.proofs.Math.Seq.{map-set_same}
use Rattle.std.proofs.lemmas.List.{length-map}
use Rattle.nv_pmem.specs.Draws.{Draws}
use Rattle.nv_pmem.specs.Part.{Part}
use Rattle.nv_pmem.specs.MemPart.{part_now, part_faults}
use Rattle.nv_pmem.specs.Picked.{picked}
use Rattle.nv_bench.proofs.PartLaws.{first_of, powered_through}
use Rattle.nv_bench.proofs.Through.{went_none, went_all, went_all_state, device_went}
use Rattle.nv_bench.proofs.parts.power_parts.Goals as goal

pub loop-part-init : goal.loop-part-init
loop-part-init c = record { states = went_none picked c.args.picker.now (map part_now c.args.parts.now); faults = refl }

pub loop-part-preserved : goal.loop-part-preserved
loop-part-preserved c = record {
  states =
      device_went part_now picked c.args.picker.now c.args.parts.now c.loop-part.part-items c.loop-part.part-index c.loop-part.picker c.image.new.picker c.part-item.result c.image.new.self
      (omega arith) c.loop-part.invariant.states c.part-item.is (first_of _ _ _ _ c.image.ensures.picked) c.image.ensures.draws;
  faults =
      map-set_same part_faults c.loop-part.part-items c.loop-part.part-index c.image.new.self c.part-item.result c.image.ensures.faults
      ∙ c.loop-part.invariant.faults;
}

pub returns-clause-parts : goal.returns-clause-parts
returns-clause-parts c =
    let parts = map part_now c.args.parts.now in
    let over : length (map part_now c.args.parts.now) ≤ c.loop-part.part-index = omega (arith, length-map c.args.parts.now part_now) in
    went_all picked c.args.picker.now parts c.loop-part.part-index _ _ over c.loop-part.invariant.states ∙ ap (λ (pair : List Part × Draws). pair.0) (powered_through c.args.picker.now parts)

pub returns-clause-draws : goal.returns-clause-draws
returns-clause-draws c =
    let parts = map part_now c.args.parts.now in
    let over : length (map part_now c.args.parts.now) ≤ c.loop-part.part-index = omega (arith, length-map c.args.parts.now part_now) in
    went_all_state picked c.args.picker.now parts c.loop-part.part-index _ _ over c.loop-part.invariant.states ∙ ap (λ (pair : List Part × Draws). pair.1) (powered_through c.args.picker.now parts)
