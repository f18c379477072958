use Rattle.std.proofs.Common.{ℕ, List, [], map, subst, sym}
use Rattle.std.proofs.lemmas.List.Elements.{All-nil}
use Rattle.std.specs.Prelude.{All}
use Rattle.nv_pmem.specs.MemPart.{part_now}
use Rattle.nv_pmem.specs.Rows.{AreQuiet}
use Rattle.nv_pmem.specs.declared.mem_part.MemPart.{MemPart}
use Rattle.nv_store.specs.Store.{IsQuietStore}
use Rattle.nv_bench.specs.Holding.{NamedStore}
use Rattle.nv_bench.proofs.PowerLaws.{quiet_parts}
use Rattle.nv_bench.proofs.mem_bench.MemBench.new.Goals as goal

pub returns-clause-quiet : goal.returns-clause-quiet
returns-clause-quiet c =
    let Parts : List MemPart → Type 0 = λ parts. AreQuiet (map part_now parts) in
    let Stores : List NamedStore → Type 0 = λ stores. All (λ (named : NamedStore). IsQuietStore named.store) stores in
    record {
      parts = subst Parts (sym c.new-2.ensures.items) (record { each = quiet_parts (λ (bytes : List ℕ). bytes) [] });
      stores = subst Stores (sym c.new-3.ensures.stores) (All-nil (λ (named : NamedStore). IsQuietStore named.store));
    }
