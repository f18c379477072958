use Rattle.std.proofs.Common.{◌≡◌, ◌+◌, ◌<◌, ◌≤◌, [], drop, length, ap, arith}
use Rattle.std.specs.List.{concat}
use Rattle.std.proofs.Math.ListN.{drop_of_length-le}
use Rattle.nv_plain.specs.Faults.{saturated}
use Rattle.nv_load.proofs.counts.bytes_in.Goals as goal

pub returns : goal.returns
returns c =
    let parts = c.args.parts.now in
    let none : length (concat (drop c.loop-part.part-index parts)) ≡ 0 = ap (λ rest. length (concat rest)) (drop_of_length-le parts (omega (arith, c.loop-part-test.false))) in
    omega (arith, none, c.loop-part.invariant.fits, c.loop-part.invariant.sum)
