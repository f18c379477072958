use Rattle.std.proofs.Common.{◌≡◌, ◌+◌, ◌++◌, ◌∙◌, ap, length, map, sym}
use Rattle.std.proofs.lemmas.List.{length-map}
use Rattle.nv_trace.specs.Report.{end_text}
use Rattle.nv_top.specs.LifeLines.{line_kept, texts_of}
use Rattle.nv_top.proofs.LifeLineLemmas.{text_of_lives}
use Rattle.nv_top.proofs.life.LivesShown.text_with.Goals as goal

pub returns : goal.returns
returns c ended report are of =
    let kept = c.args.self in
    let lines = c.args.last in
    let sorted = map line_kept c.push_by_line.new.lines.items in
    let first : c.extend_from_slice.new.self.items ≡ kept.text.items ++ lines.history.items =
    c.in_ok-extend_from_slice.ensures.items ∙ ap (λ t. kept.text.items ++ t) c.deref.ensures.value in
    let second : c.push_by_line.new.text.items ≡ kept.text.items ++ lines.history.items ++ texts_of sorted =
    c.in_ok-push_by_line.ensures.text ∙ ap (λ t. t ++ texts_of sorted) first in
    let third : c.extend_from_slice-2.new.self.items ≡ kept.text.items ++ lines.history.items ++ texts_of sorted ++ lines.open_lines.items =
    c.in_ok-extend_from_slice-2.ensures.items ∙ ap (λ t. c.push_by_line.new.text.items ++ t) c.deref-2.ensures.value ∙ ap (λ t. t ++ lines.open_lines.items) second in
    let fourth : c.extend_from_slice-3.new.self.items ≡ kept.text.items ++ lines.history.items ++ texts_of sorted ++ lines.open_lines.items ++ lines.files.items =
    c.in_ok-extend_from_slice-3.ensures.items ∙ ap (λ t. c.extend_from_slice-2.new.self.items ++ t) c.deref-3.ensures.value ∙ ap (λ t. t ++ lines.files.items) third in
    let many : length c.push_by_line.new.lines.items ≡ length sorted = sym (length-map c.push_by_line.new.lines.items line_kept) in
    text_of_lives kept lines (map line_kept c.push_lines.new.all.items) sorted c.push.new.text.items c.in_ok-push_lines.ensures c.in_ok-push_by_line.ensures.order
    (c.in_ok-push.ensures ∙ ap (λ t. c.extend_from_slice-3.new.self.items ++ t) (c.in_ok-end.ensures ∙ ap (λ n. end_text (kept.placed + lines.placed) n (kept.opened + lines.opened)) (c.count_of-count.ensures ∙ ap length c.deref-4.ensures.value ∙ many))
    ∙ ap (λ t. t ++ end_text (kept.placed + lines.placed) (length sorted) (kept.opened + lines.opened)) fourth)
    ended report are of
