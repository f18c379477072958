use Rattle.std.proofs.Common.{◌≡◌, ℕ, ◌+◌, ◌++◌, List, [], ◌∷◌, map, ap, subst, sym, ◌∙◌, arith, vec_len}
use Rattle.std.specs.Prelude.{string_bytes}
use Rattle.std.proofs.lemmas.List.{map-append}
use Rattle.nv_bench.specs.Holding.{NamedStore, without_store}
use Rattle.nv_bench.specs.Naming.{AreDistinct, names_of}
use Rattle.nv_bench.specs.BenchStores.{HasPlaces, held_stores}
use Rattle.nv_bench.proofs.NameLaws.{distinct_lent}
use Rattle.nv_bench.proofs.mem_bench.MemBench.lend.Goals as goal

pub invariant_of-self-in-Break-branch-5 : goal.invariant_of-self-in-Break-branch-5
invariant_of-self-in-Break-branch-5 c =
    let old = c.args.self.now in
    let Places : ℕ → Type 0 = λ more. HasPlaces more c.reserve-2.new.self in
    let Named : List NamedStore → Type 0 = λ stores. AreDistinct (names_of stores ++ map string_bytes old.lent.items) in
    let Lent : List (List ℕ) → Type 0 = λ lent. AreDistinct (names_of (held_stores c.reserve-2.new.self) ++ lent) in
    record {
      home = old.home;
      places = subst Places (sym c.reserve.ensures.len) (c.reserve-2.ensures.kept (vec_len old.lent) old.places);
      named = subst Lent (sym (ap (map string_bytes) c.reserve.ensures.items)) (subst Named (sym c.reserve-2.ensures.stores) old.named);
    }

pub invariant_of-self-2-clause-places : goal.invariant_of-self-2-clause-places
invariant_of-self-2-clause-places c =
    let Places : ℕ → Type 0 = λ more. HasPlaces more c.take_or.new.self in
    let many : c.len.result + 1 ≡ vec_len c.push_reserved.new.self = omega (arith, c.push_reserved.ensures.len, c.len.ensures) in
    subst Places many (c.take_or.ensures.kept (c.len.result + 1) c.in_ok-reserve-2.ensures.places)

pub invariant_of-self-2-clause-named : goal.invariant_of-self-2-clause-named
invariant_of-self-2-clause-named c =
    let old = c.args.self.now in
    let name = c.args.name.now in
    let lent = map string_bytes old.lent.items in
    let left : held_stores c.take_or.new.self ≡ without_store name (held_stores old.bench_stores) = c.take_or.ensures.others ∙ ap (without_store name) c.reserve-2.ensures.stores in
    let names : map string_bytes c.push_reserved.new.self.items ≡ lent ++ name ∷ [] =
    ap (map string_bytes) (c.push_reserved.ensures.items ∙ ap (λ items. items ++ c.in_ok-lent.lent ∷ []) c.reserve.ensures.items)
    ∙ map-append string_bytes old.lent.items (c.in_ok-lent.lent ∷ [])
    ∙ ap (λ one. lent ++ one ∷ []) c.in_ok-lent.ensures.ok in
    let Named : List NamedStore → Type 0 = λ stores. AreDistinct (names_of stores ++ (lent ++ name ∷ [])) in
    let Lent : List (List ℕ) → Type 0 = λ these. AreDistinct (names_of (held_stores c.take_or.new.self) ++ these) in
    subst Lent (sym names) (subst Named (sym left) (distinct_lent name (held_stores old.bench_stores) lent old.named c.requires.other))
