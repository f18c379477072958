use Rattle.std.proofs.Common.{◌≡◌, take, length, ap, arith}
use Rattle.std.proofs.lemmas.List.{length-take}
use Rattle.nv_plain.specs.Calls.{filled}
use Rattle.nv_calls.proofs.FilledLemmas.{length-filled}
use Rattle.nv_calls.proofs.gather.Gather.len.Goals as goal

pub returns : goal.returns
returns c =
    let m = c.self.inside in
    let is : length (filled (take m.count m.lens) m.bytes.items) ≡ length c.args.self.now = ap length c.self.view_is in
    omega (arith, is, length-filled (take m.count m.lens) m.bytes.items, length-take m.count m.lens, c.self.invariant.0, c.self.invariant.1)
