use Rattle.std.proofs.Common.{◌++◌, ℕ, List, map, ap, subst, sym}
use Rattle.std.specs.Prelude.{All, string_bytes}
use Rattle.nv_pmem.specs.Rows.{AreQuiet}
use Rattle.nv_store.specs.Store.{IsQuietStore, quiet_store}
use Rattle.nv_bench.specs.Holding.{NamedStore}
use Rattle.nv_bench.specs.Naming.{AreDistinct, names_of}
use Rattle.nv_bench.specs.BenchStores.{held_stores}
use Rattle.nv_bench.proofs.NameLaws.{made_distinct}
use Rattle.nv_bench.proofs.PowerLaws.{quiet_parts, quiet_stores}
use Rattle.nv_bench.proofs.mem_bench.MemBench.of.Goals as goal

pub returns-clause-quiet : goal.returns-clause-quiet
returns-clause-quiet c =
    let Stores : List NamedStore → Type 0 = λ stores. All (λ (named : NamedStore). IsQuietStore named.store) stores in
    record {
      parts = subst AreQuiet (sym c.in_ok-parts.ensures.made) (record { each = quiet_parts (λ bytes. bytes.now) c.args.parts.now });
      stores = subst Stores (sym c.in_ok-bench_stores.ensures.stores) (quiet_stores (λ named. named.0.now) (λ named. named.1.now) c.args.stores.now);
    }

pub invariant_of-result-clause-named : goal.invariant_of-result-clause-named
invariant_of-result-clause-named c =
    let Lent : List (List ℕ) → Type 0 = λ these. AreDistinct (names_of (held_stores c.in_ok-bench_stores.bench_stores) ++ these) in
    subst Lent (sym (ap (map string_bytes) c.new-2.ensures.items))
    (made_distinct (λ named. named.0.now) (λ named. quiet_store named.1.now) (held_stores c.in_ok-bench_stores.bench_stores) c.args.stores.now c.in_ok-bench_stores.ensures.stores c.requires.names)
