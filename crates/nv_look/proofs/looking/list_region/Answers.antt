use Rattle.std.proofs.Common.{◌≤◌, ℕ, All, map, take, drop, subst, arith}
use Rattle.std.proofs.lemmas.List.{length-map}
use Rattle.nv_plain.specs.Layouts.{layout_of}
use Rattle.nv_recover.proofs.HeadRows.{row_says_bounds}
use Rattle.nv_recover.proofs.RoomLaws.{parts_count, slots_some}
use Rattle.nv_look.proofs.looking.list_region.Goals as goal

pub list_log-requires-clause-parts : goal.list_log-requires-clause-parts
list_log-requires-clause-parts g c =
    let head = c.args.head.now in
    omega (arith, parts_count g.L.Lines.room head.geometry.page head.geometry.entries c.args.parts.now c.requires.parts, c.bounds_of.ensures.entries)

pub list_log-requires-clause-lines : goal.list_log-requires-clause-lines
list_log-requires-clause-lines g c =
    let head = c.args.head.now in
    let parts = c.args.parts.now in
    let Some : ℕ → Type 0 = λ entries. All (λ part. 1 ≤ (g.L.Lines.room part).lines) (take entries (drop 1 parts)) in
    subst Some c.bounds_of.ensures.entries (slots_some g.L.Lines.room head.geometry.page head.geometry.entries parts c.requires.parts)

pub list_log-requires-clause-header : goal.list_log-requires-clause-header
list_log-requires-clause-header g c =
    let head = c.args.head.now in
    let parts = c.args.parts.now in
    row_says_bounds (layout_of head.version).header_lines head c.bounds_of.result (map g.L.Lines.history parts) c.bounds_of.ensures
    (omega (arith, parts_count g.L.Lines.room head.geometry.page head.geometry.entries parts c.requires.parts, length-map parts g.L.Lines.history)) c.requires.head
