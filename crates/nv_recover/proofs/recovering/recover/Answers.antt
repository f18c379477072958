use Rattle.std.proofs.Common.{List, map, sym, ap, subst, arith}
use Rattle.std.proofs.lemmas.List.{length-map}
use Rattle.nv_plain.specs.Layouts.{layout_of}
use Rattle.nv_pmem.specs.Rows.{RowTells, row_words}
use Rattle.nv_pmem.proofs.OneOfRow.{lent}
use Rattle.nv_entry.specs.Checks.{SaysBounds}
use Rattle.nv_header.specs.Regions.{HasParts}
use Rattle.nv_recover.specs.Changes.{StayParts}
use Rattle.nv_recover.specs.Emptying.{SaysBoundsAndNames}
use Rattle.nv_recover.proofs.HeadRows.{row_reads_as, row_says_bounds}
use Rattle.nv_recover.proofs.RoomLaws.{parts_count}
use Rattle.nv_recover.proofs.recovering.recover.Goals as goal

pub recover_parts-requires-clause-header : goal.recover_parts-requires-clause-header
recover_parts-requires-clause-header g c =
    let head = c.args.head in
    let parts = c.args.parts.items in
    let bounds = c.bounds_of-bounds.result in
    let Says : List _ → Type 0 = λ these. RowTells (map g.L.Lines.history these) (λ told. SaysBounds bounds (row_words told)) in
    subst Says (sym c.deref_mut.ensures.value)
    (row_says_bounds (layout_of head.version).header_lines head bounds (map g.L.Lines.history parts) c.bounds_of-bounds.ensures
    (omega (arith, parts_count g.L.Lines.room head.geometry.page head.geometry.entries parts c.requires.parts, length-map parts g.L.Lines.history)) c.requires.head)

pub recover_parts-requires-clause-names : goal.recover_parts-requires-clause-names
recover_parts-requires-clause-names g c =
    let head = c.args.head in
    let parts = c.args.parts.items in
    let bounds = c.bounds_of-bounds.result in
    let Says : List _ → Type 0 = λ these. RowTells (map g.L.Lines.history these) (λ told. SaysBoundsAndNames bounds head.names (row_words told)) in
    subst Says (sym c.deref_mut.ensures.value)
    (row_reads_as (layout_of head.version).header_lines head bounds (map g.L.Lines.history parts) c.bounds_of-bounds.ensures
    (omega (arith, parts_count g.L.Lines.room head.geometry.page head.geometry.entries parts c.requires.parts, length-map parts g.L.Lines.history)) c.requires.head)

pub returns-in-Ok-clause-rooms : goal.returns-in-Ok-clause-rooms
returns-in-Ok-clause-rooms g c layout page entries has =
    let Has : List _ → Type 0 = λ these. HasParts layout page entries (map g.L.Lines.room these) in
    subst Has (sym (ap (λ vec. vec.items) c.from_parts-region.ensures.parts))
    (lent c.args.parts.items c.deref_mut.result.now c.recover_parts.new.parts c.args.parts.len c.deref_mut.ensures.value (omega (arith, c.args.parts.ok.0)) c.recover_parts.auto.parts
    (λ old new. StayParts (map g.L.Lines.room old) (map g.L.Lines.room new)) c.in-Ok.ensures.rooms layout page entries has)
