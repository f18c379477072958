use Rattle.std.proofs.Common.{take, sym, ap, ◌∙◌}
use Rattle.std.specs.List.{concat}
use Rattle.nv_calls.proofs.FilledLemmas.{concat-filled}
use Rattle.nv_calls.proofs.gather.Gather.joined.Goals as goal

pub returns : goal.returns
returns c =
    let m = c.self.inside in
    c.deref.ensures.value ∙ sym (concat-filled (take m.count m.lens) m.bytes.items c.self.invariant.2) ∙ ap concat c.self.view_is
