use Rattle.std.proofs.Common.{◌≡◌, take, length, ap, arith}
use Rattle.std.proofs.lemmas.List.{length-take}
use Rattle.nv_calls.proofs.scatter.Scatter.len.Goals as goal

pub returns : goal.returns
returns c =
    let m = c.self.inside in
    let is : length (take m.count m.lens) ≡ length c.args.self.now.lens = ap (λ s. length s.lens) c.self.view_is in
    omega (arith, is, length-take m.count m.lens, c.self.invariant.0, c.self.invariant.1)
