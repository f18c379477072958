use Rattle.std.proofs.Common.{◌≡◌, ◌+◌, ◌∷◌, ◌++◌, ℕ, List, map, ap, subst, sym, sum_by, ◌∙◌, arith}
use Rattle.std.specs.Prelude.{Some, Vec, string_bytes}
use Rattle.std.specs.Vec.{with_items}
use Rattle.std.proofs.lemmas.List.{with_items_is}
use Rattle.nv_pmem.specs.MemPart.{part_now, part_faults}
use Rattle.nv_pmem.specs.declared.mem_part.MemPart.{MemPart}
use Rattle.nv_bench.specs.Holding.{Holding}
use Rattle.nv_bench.specs.Powered.{powered, powered_parts}
use Rattle.nv_bench.specs.MemBench.{held_by, faults_by, noted_of}
use Rattle.nv_bench.specs.BenchStores.{held_stores, bench_store_faults}
use Rattle.nv_plain.specs.Faults.{saturated}
use Rattle.nv_bench.specs.declared.bench_stores.BenchStores.{BenchStores}
use Rattle.nv_bench.proofs.Lists.{sum_by-same}
use Rattle.nv_bench.specs.Naming.{AreDistinct, names_of}
use Rattle.nv_bench.proofs.PowerLaws.{holding_left, names_kept}
use Rattle.nv_bench.proofs.mem_bench.MemBenchBench.power.Goals as goal

abbrev held_with : List MemPart → BenchStores → Holding
held_with parts bench_stores = record { parts = map part_now parts; stores = held_stores bench_stores }

-- what was noted last, before all that was noted earlier
noted_first : {A : Type 0} {rows past : List (Vec MemPart A)} {sets earlier : List BenchStores} {parts : Vec MemPart A} {bench_stores : BenchStores} → rows ≡ parts ∷ past → sets ≡ bench_stores ∷ earlier
    → noted_of rows sets ≡ Some (held_with parts.items bench_stores) ∷ noted_of past earlier
noted_first {A} {rows} {past} {sets} {earlier} {parts} {bench_stores} one other = ap (λ these. noted_of these sets) one ∙ ap (noted_of (parts ∷ past)) other

pub returns-clause-off : goal.returns-clause-off
returns-clause-off c =
    let old = c.args.self.now in
    let back = with_items_is old.parts c.power_parts.new.parts (omega (arith, c.power_parts.auto.parts, c.deref_mut.ensures.len)) in
    let left = holding_left c.args.pick c.new-picker.result c.power_parts.new.picker (map part_now old.parts.items) (map part_now c.power_parts.new.parts) (held_stores old.bench_stores) (held_stores c.lose_power.new.self)
    c.new-picker.ensures
    (c.power_parts.ensures.parts ∙ ap (λ (these : List MemPart). (powered_parts c.new-picker.result (map part_now these)).0) c.deref_mut.ensures.value)
    (c.power_parts.ensures.draws ∙ ap (λ (these : List MemPart). (powered_parts c.new-picker.result (map part_now these)).1) c.deref_mut.ensures.value)
    c.lose_power.ensures.stores in
    let faults : saturated (old.gone + sum_by part_faults c.power_parts.new.parts + bench_store_faults c.lose_power.new.self) ≡ faults_by old =
    ap (λ n. saturated (old.gone + n + bench_store_faults c.lose_power.new.self)) (sum_by-same part_faults c.power_parts.new.parts old.parts.items (c.power_parts.ensures.faults ∙ ap (map part_faults) c.deref_mut.ensures.value))
    ∙ ap (λ n. saturated (old.gone + sum_by part_faults old.parts.items + n)) c.lose_power.ensures.faults in
    let held : held_with c.power_parts.new.parts c.lose_power.new.self ≡ powered c.args.pick (held_by old) = left in
    let items : held_with (with_items old.parts c.power_parts.new.parts).items c.lose_power.new.self ≡ powered c.args.pick (held_by old) =
    ap (λ (these : List MemPart). held_with these c.lose_power.new.self) back ∙ held in
    let count : saturated (old.gone + sum_by part_faults (with_items old.parts c.power_parts.new.parts).items + bench_store_faults c.lose_power.new.self) ≡ faults_by old =
    ap (λ (these : List MemPart). saturated (old.gone + sum_by part_faults these + bench_store_faults c.lose_power.new.self)) back ∙ faults in
    let settled : c.faults-self.result ≡ faults_by old = c.faults-self.ensures ∙ count in
    let before = noted_of old.left_parts.states old.left_stores.states in
    let noted : noted_of c.note.new.self.states c.note-2.new.self.states ≡ Some (powered c.args.pick (held_by old)) ∷ before =
    noted_first c.note.ensures c.note-2.ensures ∙ ap (λ (held : Holding). Some held ∷ before) items in
    λ i. record {
      told = Some (items i);
      is_open = old.is_open;
      lent = map string_bytes old.lent.items;
      faults = count i;
      arms = old.arms;
      armed = old.armed;
      settled = settled i;
      picked = c.note-3.ensures i;
      lefts = noted i;
    }

pub invariant_of-self-clause-named : goal.invariant_of-self-clause-named
invariant_of-self-clause-named c =
    let old = c.args.self.now in
    let Named : List (List ℕ) → Type 0 = λ names. AreDistinct (names ++ map string_bytes old.lent.items) in
    let kept : names_of (held_stores c.lose_power.new.self) ≡ names_of (held_stores old.bench_stores) =
    ap names_of c.lose_power.ensures.stores ∙ names_kept c.power_parts.new.picker (held_stores old.bench_stores) in
    subst Named (sym kept) old.named
