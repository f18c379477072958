use Rattle.std.proofs.Common.{◌≡◌, ◌++◌, List, length, map, ap, ◌∙◌, arith}
use Rattle.std.specs.Prelude.{string_bytes}
use Rattle.std.proofs.lemmas.List.{length-map, map-append}
use Rattle.nv_store.specs.MemStore.{store_now}
use Rattle.nv_store.specs.Store.{Store}
use Rattle.nv_bench.specs.Holding.{named_stores}
use Rattle.nv_bench.proofs.Lists.{named_stores-append, chosen_ok}
use Rattle.nv_bench.proofs.bench_stores.BenchStores.put.Goals as goal

pub returns-clause-stores : goal.returns-clause-stores
returns-clause-stores c =
    let names = c.args.self.now.names.items in
    let stores = c.args.self.now.stores.items in
    let named : c.append.new.self.items ≡ names ++ c.args.names.now.items =
    c.append.ensures.items ∙ chosen_ok c.append.result _ _ (c.append.ensures.succeeds (omega arith)) in
    let put : c.append-2.new.self.items ≡ stores ++ c.args.stores.items =
    c.append-2.ensures.items ∙ chosen_ok c.append-2.result _ _ (c.append-2.ensures.succeeds (omega arith)) in
    let long : length (map string_bytes names) ≡ length (map store_now stores) = omega (arith, length-map names string_bytes, length-map stores store_now) in
    ap (λ (these : List Store). named_stores (map string_bytes c.append.new.self.items) these) (ap (map store_now) put ∙ map-append store_now stores c.args.stores.items)
    ∙ ap (λ these. named_stores these (map store_now stores ++ map store_now c.args.stores.items)) (ap (map string_bytes) named ∙ map-append string_bytes names c.args.names.now.items)
    ∙ named_stores-append (map string_bytes names) (map string_bytes c.args.names.now.items) (map store_now stores) (map store_now c.args.stores.items) long
