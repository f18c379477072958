use Rattle.std.proofs.Common.{◌≡◌, true, false, map, refl, sym, subst}
use Rattle.nv_plain.specs.Layouts.{mount_layout}
use Rattle.nv_pmem.specs.RowStates.{row_tells_from}
use Rattle.nv_header.specs.Needs.{HasLines}
use Rattle.nv_open.specs.Refusals.{rooms_of}
use Rattle.nv_open.proofs.LineCounts.{told_counts, has_lines_same, own_lines, same_lines}
use Rattle.nv_open.proofs.Tells.{did_tells}
use Rattle.std.proofs.Common.{inl}
use Rattle.nv_pmem.specs.RowStates.{row_tells_at}
use Rattle.nv_header.specs.Regions.{IsBlankOrFormatted, IsBlankRow}
use Rattle.nv_open.proofs.Partly.{row_end}
use Rattle.nv_open.proofs.formatting.format_parts.Goals as goal

pub returns-in-Err-clause-short : goal.returns-in-Err-clause-short
returns-in-Err-clause-short g c why is =
    let page = c.args.geometry.page in
    let entries = c.args.geometry.entries in
    let parts = c.args.parts.items in
    row_tells_from (map g.L.Lines.history parts) (λ told. ¬ (HasLines mount_layout page entries (rooms_of told))) (λ told are has.
    let long = has_lines_same mount_layout page entries (rooms_of told) (map g.L.Lines.room parts) (sym (told_counts g.L.Lines.history g.L.Lines.room g.met.L.Lines.told_lines parts told are)) has in
    let never : false ≡ true = c.in-Err.ensures.exact.1 (subst (λ these. HasLines mount_layout page entries (map g.L.Lines.room these)) (sym c.deref.ensures.value) long) in
    cc)

pub format-requires-clause-parts : goal.format-requires-clause-parts
format-requires-clause-parts g c =
    c.needed_lines_make_parts.ensures mount_layout c.args.geometry.page c.args.geometry.entries (map g.L.Lines.room c.args.parts.items)
    (subst (λ these. HasLines mount_layout c.args.geometry.page c.args.geometry.entries (map g.L.Lines.room these)) c.deref.ensures.value (c.in_default.ensures.exact.0 refl)) c.requires.spare

pub returns-in-Ok-clause-tell : goal.returns-in-Ok-clause-tell
returns-in-Ok-clause-tell g c tell = did_tells _ (map g.L.Lines.history c.args.parts.items) (map g.L.Lines.history c.in-Ok.region.parts.items) c.in-Ok.ensures.done tell

pub returns-in-Ok-clause-lines : goal.returns-in-Ok-clause-lines
returns-in-Ok-clause-lines g c = same_lines g.L.Lines.history g.L.Lines.room g.met.L.Lines.told_lines c.args.parts.items c.in-Ok.region.parts.items c.in-Ok.ensures.changed.lines

pub returns-in-Err-clause-lines : goal.returns-in-Err-clause-lines
returns-in-Err-clause-lines g c = own_lines c.rows_have_states.ensures.one (map g.L.Lines.history c.args.parts.items)

pub returns-clause-lines : goal.returns-clause-lines
returns-clause-lines g c = same_lines g.L.Lines.history g.L.Lines.room g.met.L.Lines.told_lines c.args.parts.items c.in-Err-format.parts.items c.in-Err-format.ensures.changed.lines

pub returns-in-Err-clause-left : goal.returns-in-Err-clause-left
returns-in-Err-clause-left g c tell =
    let row = map g.L.Lines.history c.args.parts.items in
    let now = c.rows_have_states.ensures.some row tell in
    let blank = row_tells_at row IsBlankRow now.states now.are c.requires.blank in
    record { now = now.states; now_are = now.are; is_so = λ image is. inl (blank.blank image is) }

pub returns-clause-left : goal.returns-clause-left
returns-clause-left g c tell =
    row_end (IsBlankOrFormatted mount_layout c.args.geometry.page c.args.geometry.entries) (map g.L.Lines.history c.args.parts.items) (map g.L.Lines.history c.in-Err-format.parts.items) c.rows_have_states.ensures.some tell
    c.in-Err-format.ensures.changed.moments
