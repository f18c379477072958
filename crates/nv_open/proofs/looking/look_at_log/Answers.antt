use Rattle.std.proofs.Common.{Err, map, sym, ap, ◌∙◌, arith}
use Rattle.std.proofs.lemmas.Result.{err_from_is_err_and}
use Rattle.nv_plain.specs.Layouts.{layout_of}
use Rattle.nv_header.specs.Needs.{header_lines_in}
use Rattle.nv_recover.specs.Standing.{files_of}
use Rattle.nv_open.proofs.HeadLaws.{error_is, some_part}
use Rattle.nv_open.proofs.LogLaws.{refused_by_log}
use Rattle.nv_open.proofs.Looks.{files_shown, head_needs}
use Rattle.nv_open.proofs.Versions.{least_lines}
use Rattle.nv_open.proofs.looking.look_at_log.Goals as goal

pub look_files-requires-clause-head : goal.look_files-requires-clause-head
look_files-requires-clause-head g c =
    head_needs (map g.L.Lines.history c.args.parts.now) (header_lines_in (map g.L.Lines.room c.args.parts.now)) c.args.head.now c.requires.head

pub look_files-requires-clause-parts : goal.look_files-requires-clause-parts
look_files-requires-clause-parts g c =
    let head = c.args.head.now in
    c.needed_lines_make_parts.ensures (layout_of head.version) head.geometry.page head.geometry.entries (map g.L.Lines.room c.args.parts.now) c.requires.lines c.requires.spare

pub returns-clause-text : goal.returns-clause-text
returns-clause-text g c = λ was are.
    let parts = c.args.parts.now in
    files_shown g.L.Lines.history g.L.Lines.room g.met.L.Lines.told_lines parts c.args.head.now (some_part g.L.Lines.room parts (λ short. omega (arith, c.requires.lines.header, least_lines c.args.head.now.version))) c.requires.lines c.requires.head
    c.images_stand_for_files.ensures.files (files_of was) c.in_ok-look_files.field-0 c.in_ok-look_files.ensures.fits (c.in_ok-look_files.ensures.text was are)

pub returns-in_err-look_files-clause-refused : goal.returns-in_err-look_files-clause-refused
returns-in_err-look_files-clause-refused g c why is =
    let p = err_from_is_err_and c.from_residual.result c.from_residual.ensures.1 in
    refused_by_log g.L.Lines.history g.L.Lines.room g.met.L.Lines.told_lines c.args.parts.now c.args.head.now c.requires.lines c.requires.head c.in_err-look_files.field-0.0 why
    (sym p.2 ∙ error_is c.from_residual.result _ _ p.1 is) (λ number same. c.look_files.ensures.bad number (c.in_err-look_files.was ∙ ap Err same))
