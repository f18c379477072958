use Rattle.std.proofs.Common.{◌≡◌, ℕ, List, length, map, sym, ap, ◌∙◌, arith}
use Rattle.std.specs.Prelude.{Some, string_bytes}
use Rattle.std.specs.List.{remove}
use Rattle.std.proofs.Math.ListN.{get_or-map}
use Rattle.std.proofs.lemmas.List.{length-map}
use Rattle.nv_store.specs.MemStore.{store_now}
use Rattle.nv_store.specs.Store.{Store}
use Rattle.nv_bench.specs.Holding.{named_stores}
use Rattle.nv_bench.specs.Places.{place_of}
use Rattle.nv_bench.specs.declared.bench_stores.BenchStores.{BenchStores}
use Rattle.nv_bench.proofs.Lists.{Leads, place_leads, no_place_store, no_place_others, map-remove}
use Rattle.nv_bench.proofs.StoreLaws.{now_of_first}
use Rattle.nv_bench.proofs.bench_stores.BenchStores.take_or.Goals as goal

leads : (bench_stores : BenchStores) (name : List ℕ) (place : ℕ) → Some place ≡ place_of name (map string_bytes bench_stores.names.items)
    → Leads name (map string_bytes bench_stores.names.items) (map store_now bench_stores.stores.items) place
leads bench_stores name place is =
    let long : length (map string_bytes bench_stores.names.items) ≡ length (map store_now bench_stores.stores.items) =
    let same = bench_stores.matched in omega (arith, length-map bench_stores.names.items string_bytes, length-map bench_stores.stores.items store_now) in
    place_leads name (map string_bytes bench_stores.names.items) (map store_now bench_stores.stores.items) place long is

pub remove-requires : goal.remove-requires
remove-requires c =
    let way = leads c.args.self.now c.args.name.now c.in-Some.place (c.in-Some.ensures ∙ ap (λ these. place_of c.args.name.now (map string_bytes these)) c.deref.ensures.value) in
    let inside = way.inside in
    omega (arith, inside, length-map c.args.self.now.names.items string_bytes)

pub returns-in-Some-clause-store : goal.returns-in-Some-clause-store
returns-in-Some-clause-store c =
    let way = leads c.args.self.now c.args.name.now c.in-Some.place (c.in-Some.ensures ∙ ap (λ these. place_of c.args.name.now (map string_bytes these)) c.deref.ensures.value) in
    let one = c.remove-in-Some.result in
    ap store_now c.remove-in-Some.ensures.value
    ∙ sym (get_or-map store_now c.args.self.now.stores.items c.in-Some.place one)
    ∙ sym (way.store (store_now one))

pub returns-in-Some-clause-others : goal.returns-in-Some-clause-others
returns-in-Some-clause-others c =
    let way = leads c.args.self.now c.args.name.now c.in-Some.place (c.in-Some.ensures ∙ ap (λ these. place_of c.args.name.now (map string_bytes these)) c.deref.ensures.value) in
    ap (λ these. named_stores these (map store_now c.remove-in-Some.new.self.items)) (ap (map string_bytes) c.remove.ensures.items ∙ map-remove string_bytes c.args.self.now.names.items c.in-Some.place)
    ∙ ap (λ (these : List Store). named_stores (remove (map string_bytes c.args.self.now.names.items) c.in-Some.place) these)
    (ap (map store_now) c.remove-in-Some.ensures.items ∙ map-remove store_now c.args.self.now.stores.items c.in-Some.place)
    ∙ sym way.others

pub returns-in-None-clause-store : goal.returns-in-None-clause-store
returns-in-None-clause-store c =
    now_of_first _ _ _ c.requires.history
    ∙ sym (no_place_store c.args.name.now (map string_bytes c.args.self.now.names.items) (map store_now c.args.self.now.stores.items) (c.in-None.ensures ∙ ap (λ these. place_of c.args.name.now (map string_bytes these)) c.deref.ensures.value))

pub returns-in-None-clause-others : goal.returns-in-None-clause-others
returns-in-None-clause-others c =
    sym (no_place_others c.args.name.now (map string_bytes c.args.self.now.names.items) (map store_now c.args.self.now.stores.items) (c.in-None.ensures ∙ ap (λ these. place_of c.args.name.now (map string_bytes these)) c.deref.ensures.value))
