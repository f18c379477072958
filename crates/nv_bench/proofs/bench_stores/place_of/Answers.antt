use Rattle.std.proofs.Common.{◌≡◌, ◌<◌, true, false, nat_eq, List, ℕ, length, map, get_or, sym, ap, ◌∙◌, arith}
use Rattle.std.specs.Prelude.{Some, string_bytes}
use Rattle.std.proofs.Math.ListN.{get_or-map}
use Rattle.std.proofs.lemmas.List.{length-map}
use lib.Pointwise.{pointwise}
use Rattle.nv_bench.proofs.Lists.{passed_here, passed_more}
use Rattle.nv_bench.proofs.bench_stores.place_of.Goals as goal

pub returns-then-eq : goal.returns-then-eq
returns-then-eq c =
    let names = map string_bytes c.args.names.now in
    let other = string_bytes c.other-item.result in
    let inside : c.loop-other.other-index < length (map string_bytes c.args.names.now) = omega (arith, length-map c.args.names.now string_bytes) in
    let here : get_or names c.loop-other.other-index other ≡ other = get_or-map string_bytes c.args.names.now c.loop-other.other-index c.other-item.result ∙ ap string_bytes (sym c.other-item.is) in
    let test : pointwise nat_eq other c.args.name.now ≡ true = let a = c.eq.ensures in let b = c.as_str.ensures.value in let d = c.if-eq.true in cc in
    ap Some c.loop-other.invariant.i_is
    ∙ passed_here c.args.name.now names c.loop-other.other-index other inside c.loop-other.invariant.passed (ap (λ (bytes : List ℕ). pointwise nat_eq bytes c.args.name.now) here ∙ test)

pub loop-other-preserved : goal.loop-other-preserved
loop-other-preserved c =
    let names = map string_bytes c.args.names.now in
    let other = string_bytes c.other-item.result in
    let inside : c.loop-other.other-index < length (map string_bytes c.args.names.now) = omega (arith, length-map c.args.names.now string_bytes) in
    let here : get_or names c.loop-other.other-index other ≡ other = get_or-map string_bytes c.args.names.now c.loop-other.other-index c.other-item.result ∙ ap string_bytes (sym c.other-item.is) in
    let test : pointwise nat_eq other c.args.name.now ≡ false = let a = c.eq.ensures in let b = c.as_str.ensures.value in let d = c.if-eq.false in cc in
    record {
      i_is = omega arith;
      passed = passed_more c.args.name.now names c.loop-other.other-index other inside c.loop-other.invariant.passed (ap (λ (bytes : List ℕ). pointwise nat_eq bytes c.args.name.now) here ∙ test);
    }
