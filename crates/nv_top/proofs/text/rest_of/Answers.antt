use Rattle.std.proofs.Common.{rules, ◌≡◌, ◌++◌, ◌∙◌, ap, append_assoc, map, length, sym}
use Rattle.std.proofs.lemmas.List.{length-map}
use Rattle.nv_trace.specs.Report.{end_text}
use Rattle.nv_runner.specs.Faithful.{named}
use Rattle.nv_runner.specs.FaithfulRuns.{shown_refusals}
use Rattle.nv_runner.specs.Reports.{history_lines, refused_lines}
use Rattle.nv_top.specs.Reports.{report_text, open_lines, file_lines}
use Rattle.nv_top.specs.Outcomes.{fated_call}
use Rattle.nv_top.proofs.text.rest_of.Goals as goal

pub returns : goal.returns
unfolding report_text
returns c placed refused open_calls kept =
    let left = c.args.fated.now in
    let said = shown_refusals refused in
    let files = named c.args.names.now (record { contents = c.args.files.now }) in
    let before = history_lines 0 placed in
    let end = end_text (length placed) (length said) (length (map fated_call left)) in
    let first : c.extend_from_slice.new.self.items ≡ refused_lines said =
    c.in_ok-extend_from_slice.ensures.items ∙ ap (λ t. t ++ c.deref.result.now) c.new-text.ensures.items ∙ c.deref.ensures.value ∙ kept.lines in
    let second : c.push_open.new.text.items ≡ c.extend_from_slice.new.self.items ++ open_lines (map fated_call left) = c.in_ok-push_open.ensures in
    let third : c.push_files.new.text.items ≡ c.push_open.new.text.items ++ file_lines files = c.in_ok-push_files.ensures in
    let opened : length left ≡ length (map fated_call left) = search (rules, length-map) in
    let last : c.push-2.new.text.items ≡ c.push_files.new.text.items ++ end =
    c.in_ok-push.ensures ∙ ap (λ t. c.push_files.new.text.items ++ t)
    (c.in_ok-end_line.ensures ∙ (ap (λ n. end_text n c.args.kept.now.refused_count (length left)) kept.placed_are
    ∙ (ap (λ n. end_text (length placed) n (length left)) kept.refused_are ∙ ap (λ n. end_text (length placed) (length said) n) opened))) in
    let all : c.push-2.new.text.items ≡ ((refused_lines said ++ open_lines (map fated_call left)) ++ file_lines files) ++ end =
    last ∙ ap (λ t. t ++ end) (third ∙ ap (λ t. t ++ file_lines files) (second ∙ ap (λ t. t ++ open_lines (map fated_call left)) first)) in
    let opens = open_lines (map fated_call left) in
    let shown = file_lines files in
    ap (λ t. before ++ t) all
    ∙ sym (append_assoc before ((refused_lines said ++ opens) ++ shown) end)
    ∙ ap (λ t. t ++ end) (sym (append_assoc before (refused_lines said ++ opens) shown) ∙ ap (λ t. t ++ shown) (sym (append_assoc before (refused_lines said) opens)))
