use Rattle.std.proofs.Common.{◌≡◌, ◌<◌, ◌∷◌, ◌++◌, [], List, ℕ, take, length, ap, ap₂, ◌∙◌, arith}
use Rattle.std.proofs.lemmas.Grind.{common_steps}
use Rattle.std.proofs.lemmas.List.{length-take, take_more_set}
use Rattle.nv_plain.specs.Calls.{filled}
use Rattle.nv_calls.proofs.FilledLemmas.{filled-more, length-filled}
use Rattle.nv_calls.proofs.gather.Gather.add.Goals as goal

pub returns-clause-added : goal.returns-clause-added
returns-clause-added c =
    let m = c.self.inside in
    let room : m.count < length m.lens = omega (arith, c.self.invariant.0, c.self.invariant.1, c.if-self-eq-MOST_PARTS.false) in
    let bytes : c.extend_from_slice.new.self.items ≡ m.bytes.items ++ c.args.bytes.now = grind (arith, common_steps, c.extend_from_slice.ensures.items, c.is_err.ensures.value, c.if-is_err.ensures.value) in
    ap₂ filled (take_more_set m.lens m.count (length c.args.bytes.now) room) bytes
    ∙ filled-more (take m.count m.lens) m.bytes.items c.args.bytes.now c.self.invariant.2
    ∙ ap (λ (parts : List (List ℕ)). parts ++ c.args.bytes.now ∷ []) c.self.view_is

pub returns-then-is_err-clause-full : goal.returns-then-is_err-clause-full
returns-then-is_err-clause-full c =
    let m = c.self.inside in
    let is : length (filled (take m.count m.lens) m.bytes.items) ≡ length c.args.self.now = ap length c.self.view_is in (
      λ never. absurd (cc),
      λ long. absurd (omega (arith, is, long, length-filled (take m.count m.lens) m.bytes.items, length-take m.count m.lens, c.self.invariant.0, c.self.invariant.1, c.if-self-eq-MOST_PARTS.false)),
    )

pub returns-clause-full : goal.returns-clause-full
returns-clause-full c =
    let m = c.self.inside in
    let is : length (filled (take m.count m.lens) m.bytes.items) ≡ length c.args.self.now = ap length c.self.view_is in (
      λ never. absurd (cc),
      λ long. absurd (omega (arith, is, long, length-filled (take m.count m.lens) m.bytes.items, length-take m.count m.lens, c.self.invariant.0, c.self.invariant.1, c.if-self-eq-MOST_PARTS.false)),
    )
