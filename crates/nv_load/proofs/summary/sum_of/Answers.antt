use Rattle.std.proofs.Common.{◌≡◌, ◌+◌, [], drop, ap, ◌∙◌, sym, arith}
use Rattle.std.proofs.lemmas.List.{drop_all}
use Rattle.nv_plain.specs.Faults.{saturated}
use Rattle.nv_load.specs.Summaries.{weighted_sum}
use Rattle.nv_load.proofs.summary.sum_of.Goals as goal

pub returns : goal.returns
returns c =
    let sum = c.loop-place.sum in
    let done : drop c.loop-place.place c.args.file.now ≡ [] = drop_all c.loop-place.place c.args.file.now c.loop-place-test.false in
    let rest = ap (λ bytes. saturated (sum + weighted_sum (c.loop-place.place + 1) bytes)) done in
    let fits : sum ≡ saturated (sum + 0) = omega (arith, c.loop-place.invariant.fits) in
    fits ∙ sym rest ∙ c.loop-place.invariant.all
