use Rattle.std.proofs.Common.{◌≤◌, List, map, length, refl, ap, ◌∙◌, arith}
use Rattle.std.proofs.Math.Seq.{map-set_same}
use Rattle.std.proofs.lemmas.List.{length-map}
use Rattle.nv_pmem.specs.Draws.{Draws}
use Rattle.nv_store.specs.MemStore.{store_now, store_faults}
use Rattle.nv_store.specs.Store.{Store}
use Rattle.nv_bench.proofs.StoreLaws.{left, left_through, first_of}
use Rattle.nv_bench.proofs.Through.{went_none, went_all, device_went}
use Rattle.nv_bench.proofs.bench_stores.power_stores.Goals as goal

pub loop-store-init : goal.loop-store-init
loop-store-init c = record { states = went_none left c.args.picker.now (map store_now c.args.stores.now); faults = refl }

pub loop-store-preserved : goal.loop-store-preserved
loop-store-preserved c = record {
  states =
      device_went store_now left c.args.picker.now c.args.stores.now c.loop-store.store-items c.loop-store.store-index c.loop-store.picker c.image.new.picker c.store-item.result c.image.new.self
      (omega arith) c.loop-store.invariant.states c.store-item.is (first_of _ _ _ _ c.image.ensures.picked) c.image.ensures.draws;
  faults =
      map-set_same store_faults c.loop-store.store-items c.loop-store.store-index c.image.new.self c.store-item.result c.image.ensures.faults
      ∙ c.loop-store.invariant.faults;
}

pub returns-clause-stores : goal.returns-clause-stores
returns-clause-stores c =
    let stores = map store_now c.args.stores.now in
    let over : length (map store_now c.args.stores.now) ≤ c.loop-store.store-index = omega (arith, length-map c.args.stores.now store_now) in
    went_all left c.args.picker.now stores c.loop-store.store-index _ _ over c.loop-store.invariant.states
    ∙ ap (λ (pair : List Store × Draws). pair.0) (left_through c.args.picker.now stores)
