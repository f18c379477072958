use Rattle.std.proofs.Common.{◌≡◌, ◌<◌, ◌∷◌, ◌++◌, [], List, ℕ, take, length, ap, ◌∙◌, arith}
use Rattle.std.proofs.lemmas.Grind.{common_steps}
use Rattle.std.proofs.lemmas.List.{length-take, take_more_set}
use Rattle.nv_plain.specs.Calls.{filled}
use Rattle.nv_calls.proofs.FilledLemmas.{filled-none}
use Rattle.nv_calls.proofs.scatter.Scatter.add.Goals as goal

pub returns-clause-parts : goal.returns-clause-parts
returns-clause-parts c =
    let m = c.self.inside in
    let room : m.count < length m.lens = omega (arith, c.self.invariant.0, c.self.invariant.1, c.if-self-eq-MOST_PARTS.false) in
    let same : take m.got c.resize.new.self.items ≡ take m.got m.room.items = grind (arith, common_steps, c.resize.ensures.items, c.self.invariant.3) in
    let t = length-take m.got m.room.items in
    ap (λ (lens : List ℕ). filled lens (take m.got c.resize.new.self.items)) (take_more_set m.lens m.count c.args.len room)
    ∙ ap (filled (take m.count m.lens ++ c.args.len ∷ [])) same
    ∙ filled-none (take m.count m.lens) (take m.got m.room.items) c.args.len (omega (arith, t, c.self.invariant.2, c.self.invariant.3))
    ∙ ap (λ (parts : List (List ℕ)). parts ++ [] ∷ []) (ap (λ s. s.parts) c.self.view_is)
