use Rattle.std.proofs.Common.{◌≡◌, ◌++◌, ℕ, List, map, ap, subst, sym, ◌∙◌, arith}
use Rattle.std.proofs.lemmas.List.{length-map}
use Rattle.std.specs.Prelude.{Some, string_bytes}
use Rattle.nv_pmem.specs.Part.{Part}
use Rattle.nv_store.specs.Store.{Store}
use Rattle.nv_bench.specs.Holding.{Holding, NamedStore, named_stores}
use Rattle.nv_bench.specs.Naming.{AreDistinct, names_of}
use Rattle.nv_bench.specs.BenchStores.{held_stores}
use Rattle.nv_store.specs.MemStore.{store_now}
use Rattle.nv_bench.proofs.PartLaws.{are_parts}
use Rattle.nv_bench.proofs.StoreLaws.{are_stores}
use Rattle.nv_bench.proofs.NameLaws.{distinct_back}
use Rattle.nv_bench.proofs.mem_bench.MemBenchBench.give_back.Goals as goal

held : List Part → List NamedStore → Holding
held parts stores = record { parts = parts; stores = stores }

holdings : (parts now : List Part) (stores left : List NamedStore) → now ≡ parts → stores ≡ left → Some (held parts stores) ≡ Some (held now left)
holdings parts now stores left parts_are stores_are = λ i. Some (held (sym parts_are i) (stores_are i))

pub returns-clause-told : goal.returns-clause-told
unfolding held
returns-clause-told c now stores parts_now stores_now =
    let lent = map string_bytes c.args.self.now.lent.items in
    holdings _ now _ _ (are_parts c.args.parts.items now parts_now)
    (c.put.ensures.stores
    ∙ ap (λ (these : List Store). held_stores c.args.self.now.bench_stores ++ named_stores lent these) (sym (are_stores c.args.stores.items stores stores_now)))

pub invariant_of-self-clause-named : goal.invariant_of-self-clause-named
invariant_of-self-clause-named c =
    let lent = map string_bytes c.args.self.now.lent.items in
    let stores = map store_now c.args.stores.items in
    let Named : List (List ℕ) → Type 0 = λ names. AreDistinct (names_of (held_stores c.put.new.self) ++ names) in
    subst Named (sym (ap (map string_bytes) c.put.ensures.names))
    (distinct_back (held_stores c.put.new.self) (held_stores c.args.self.now.bench_stores) lent stores c.put.ensures.stores
    (omega (arith, c.requires.stores, length-map c.args.stores.items store_now)) c.args.self.now.named)
