use Rattle.std.proofs.Common.{ℕ, ap, ◌∙◌}
use Rattle.nv_pmem.specs.Draws.{Draws, next_word, after_draw}
use Rattle.nv_pmem.proofs.picker.Picker.draw.Goals as goal

pub returns-clause-word : goal.returns-clause-word
unfolding next_word
returns-clause-word c = ap (λ (p : ℕ × ℕ). p.0) c.next_word.ensures ∙ ap next_word c.self.view_is

pub returns-clause-after : goal.returns-clause-after
unfolding after_draw
returns-clause-after c =
    ap (λ (p : ℕ × ℕ). let draws : Draws = record { pick = c.self.inside.pick; state = p.1 } in draws) c.next_word.ensures
    ∙ ap after_draw c.self.view_is
