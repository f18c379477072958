use Rattle.std.proofs.Common.{◌++◌, ◌∙◌, ap, false, refl}
use Rattle.nv_top.specs.Reports.{crash_text}
use Rattle.nv_top.proofs.LifeLineLemmas.{keep_a_line_each, kept_more}
use Rattle.nv_top.proofs.life.LivesShown.end_life.Goals as goal

pub returns-clause-more : goal.returns-clause-more
unfolding crash_text
returns-clause-more c ended report are of =
    let text = c.args.self.now.text.items in
    let lines = c.args.life in
    kept_more c.args.self.now _ lines false ended report are of refl
    (c.in_ok-extend_from_slice-3.ensures.items
    ∙ ap (λ t. t ++ crash_text) (c.in_ok-extend_from_slice-2.ensures.items ∙ ap (λ t. c.extend_from_slice.new.self.items ++ t) c.deref-2.ensures.value
    ∙ ap (λ t. t ++ lines.open_lines.items) (c.in_ok-extend_from_slice.ensures.items ∙ ap (λ t. text ++ t) c.deref.ensures.value)))
    c.in_ok-push_lines.ensures refl

pub returns-clause-each : goal.returns-clause-each
unfolding crash_text
returns-clause-each c =
    let text = c.args.self.now.text.items in
    let lines = c.args.life in
    keep_a_line_each c.args.self.now _ lines c.requires.kept c.requires.each refl refl
    (c.in_ok-extend_from_slice-3.ensures.items
    ∙ ap (λ t. t ++ crash_text) (c.in_ok-extend_from_slice-2.ensures.items ∙ ap (λ t. c.extend_from_slice.new.self.items ++ t) c.deref-2.ensures.value
    ∙ ap (λ t. t ++ lines.open_lines.items) (c.in_ok-extend_from_slice.ensures.items ∙ ap (λ t. text ++ t) c.deref.ensures.value)))
