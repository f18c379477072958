use Rattle.std.proofs.Common.{◌≡◌, ◌++◌, ◌∙◌, ap, length}
use Rattle.nv_trace.specs.Report.{recovered_text}
use Rattle.nv_runner.specs.Faithful.{named}
use Rattle.nv_top.specs.Reports.{file_lines, recovery_text}
use Rattle.nv_top.proofs.text.recovery_text_of.Goals as goal

pub returns : goal.returns
unfolding recovery_text
returns c =
    let found = c.args.found.now in
    let files = named c.args.names.now (record { contents = c.args.files.now }) in
    let first : c.push-2.new.text.items ≡ recovered_text found.first found.next (length found.groups) =
    c.in_ok-push.ensures ∙ (ap (λ t. t ++ c.in_ok-recovered_line.field-0) c.new-text.ensures.items
    ∙ (c.in_ok-recovered_line.ensures ∙ ap (λ ns. recovered_text found.first found.next (length ns)) c.as_slice.ensures)) in
    c.in_ok-push_files.ensures ∙ ap (λ t. t ++ file_lines files) first
