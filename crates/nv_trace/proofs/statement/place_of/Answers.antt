use Rattle.std.proofs.Common.{ℕ, List, [], Bool, nat_eq, length, sym, ap, ◌∙◌, arith}
use Rattle.std.proofs.lemmas.List.Sums.{position_or_len_is}
use lib.Pointwise.{pointwise}
use Rattle.nv_trace.proofs.statement.place_of.Goals as goal

pub returns-then-eq : goal.returns-then-eq
returns-then-eq c =
    let names = c.args.names.now in
    let name = c.args.name.now in
    let known = c.index-names-place.result in
    let test : List ℕ → Bool = λ known. pointwise nat_eq known name in
    sym (position_or_len_is test names c.loop-place.place known (omega (arith, c.loop-place-test.true))
    (λ k below. c.loop-place.invariant k known below)
    (λ inside. ap test (sym c.index-names-place.is ∙ sym c.as_slice.ensures) ∙ sym c.eq.ensures ∙ c.if-eq.true))

pub returns : goal.returns
returns c =
    let names = c.args.names.now in
    let test : List ℕ → Bool = λ known. pointwise nat_eq known c.args.name.now in
    sym (position_or_len_is test names (length names) [] (omega arith)
    (λ k below. c.loop-place.invariant k [] (omega (arith, below, c.loop-place-test.false)))
    (λ inside. absurd (omega (arith, inside))))
