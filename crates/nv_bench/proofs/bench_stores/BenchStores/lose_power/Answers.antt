use Rattle.std.proofs.Common.{List, map, ap, ◌∙◌, arith, sum_by}
use Rattle.std.specs.Prelude.{string_bytes}
use Rattle.std.proofs.lemmas.List.{with_items_is}
use Rattle.nv_store.specs.MemStore.{store_now, store_faults}
use Rattle.nv_store.specs.declared.mem_store.MemStore.{MemStore}
use Rattle.nv_bench.specs.Holding.{named_stores}
use Rattle.nv_bench.specs.Powered.{stores_left}
use Rattle.nv_bench.proofs.Lists.{sum_by-same}
use Rattle.nv_bench.proofs.StoreLaws.{named_left}
use Rattle.nv_bench.proofs.bench_stores.BenchStores.lose_power.Goals as goal

pub returns-clause-stores : goal.returns-clause-stores
returns-clause-stores c =
    let names = map string_bytes c.args.self.now.names.items in
    let back = with_items_is c.args.self.now.stores c.power_stores.new.stores (omega (arith, c.power_stores.auto.stores, c.deref_mut.ensures.len)) in
    ap (λ (stores : List MemStore). named_stores names (map store_now stores)) back
    ∙ ap (named_stores names) (c.power_stores.ensures.stores ∙ ap (λ (these : List MemStore). (stores_left c.args.picker.now (map store_now these)).0) c.deref_mut.ensures.value)
    ∙ named_left c.args.picker.now names (map store_now c.args.self.now.stores.items)

pub returns-clause-faults : goal.returns-clause-faults
returns-clause-faults c =
    let back = with_items_is c.args.self.now.stores c.power_stores.new.stores (omega (arith, c.power_stores.auto.stores, c.deref_mut.ensures.len)) in
    ap (sum_by store_faults) back ∙ sum_by-same store_faults c.power_stores.new.stores c.args.self.now.stores.items (c.power_stores.ensures.faults ∙ ap (map store_faults) c.deref_mut.ensures.value)
