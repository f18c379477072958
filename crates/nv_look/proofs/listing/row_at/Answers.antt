use Rattle.std.proofs.Common.{◌≡◌, ℕ, List, map, refl, sym, subst, arith}
use Rattle.nv_plain.specs.Images.{layout_in}
use Rattle.nv_plain.specs.Layouts.{layout_of}
use Rattle.nv_pmem.specs.Rows.{RowTells, row_words}
use Rattle.nv_pmem.specs.Steps.{PartHistory}
use Rattle.nv_pmem.proofs.ReadLaws.{only_read_more}
use Rattle.nv_pmem.proofs.RowLaws.{row_tells_more}
use Rattle.nv_entry.proofs.Slots.{slots_still}
use Rattle.nv_entry.proofs.OneAnswerLaws.{whole_is_not_bad}
use Rattle.nv_recover.proofs.HeadRows.{by_own}
use Rattle.nv_entry.specs.declared.bounds.Bounds.{Bounds}
use Rattle.nv_entry.specs.Checks.{SaysBounds, SaysOfGroup, IsOfGroup}
use Rattle.nv_entry.specs.declared.check.GroupCheck.{GroupCheck}
use Rattle.nv_entry.specs.declared.check.GroupCheck.TheVariants.{Whole, Bad as BadAt}
use Rattle.nv_look.specs.Listings.{IsRow}
use Rattle.nv_look.specs.Walks.{IsWholeWalk}
use Rattle.nv_look.specs.declared.listing.Row.TheVariants.{Bad}
use Rattle.nv_look.proofs.listing.row_at.Goals as goal

-- a number whose check names a bad one
bad_row : (row : List PartHistory) (bounds : Bounds) (leader bad : ℕ) (check : GroupCheck) → check ≡ BadAt bad → RowTells row (λ parts. SaysBounds bounds (row_words parts))
    → RowTells row (λ parts. SaysOfGroup (layout_of bounds.version) (row_words parts) leader check) → RowTells row (λ parts. IsRow (row_words parts) leader (Bad leader))
bad_row row bounds leader bad check is says told =
    let layout = layout_of bounds.version in
    let Says : GroupCheck → Type 0 = λ check. RowTells row (λ parts. SaysOfGroup layout (row_words parts) leader check) in
    row_tells_more row (λ parts. SaysOfGroup (layout_in (row_words parts)) (row_words parts) leader (BadAt bad)) (λ parts. IsRow (row_words parts) leader (Bad leader))
    (λ parts breaks. (refl, λ whole. whole_is_not_bad (layout_in (row_words parts)) (row_words parts) leader bad whole breaks))
    (by_own row bounds (λ layout image. SaysOfGroup layout image leader (BadAt bad)) says (subst Says is told))

pub group_at-requires-clause-lines : goal.group_at-requires-clause-lines
group_at-requires-clause-lines g c =
    slots_still g.L.Lines.room 1 c.args.bounds.now.entries c.args.parts.now c.check_group.new.parts c.check_group.ensures.read.rooms c.requires.lines

pub group_at-requires-clause-header : goal.group_at-requires-clause-header
group_at-requires-clause-header g c =
    let Says : List PartHistory → Type 0 = λ row. RowTells row (λ told. SaysBounds c.args.bounds.now (row_words told)) in
    subst Says (sym c.check_group.ensures.read.histories) c.requires.header

-- a whole group of so many entries ends in the window
pub group_at-requires-clause-few : goal.group_at-requires-clause-few
group_at-requires-clause-few g c =
    let Is : GroupCheck → Type 0 = IsOfGroup (layout_of c.args.bounds.now.version) c.args.bounds.now c.args.number in
    let limits = subst Is c.in-Whole.is c.in_ok-check_group.ensures.limits in
    omega (arith, limits.2)

pub group_at-requires-clause-whole : goal.group_at-requires-clause-whole
group_at-requires-clause-whole g c =
    let bounds = c.args.bounds.now in
    let row : List PartHistory = map g.L.Lines.history c.args.parts.now in
    let layout = layout_of bounds.version in
    let Says : GroupCheck → Type 0 = λ check. RowTells row (λ parts. SaysOfGroup layout (row_words parts) c.args.number check) in
    let Is : List PartHistory → Type 0 = λ row. RowTells row (λ told. IsWholeWalk (row_words told) c.args.number c.in-Whole.count) in
    subst Is (sym c.check_group.ensures.read.histories)
    (by_own row bounds (λ layout image. SaysOfGroup layout image c.args.number (Whole c.in-Whole.count)) c.requires.header
    (subst Says c.in-Whole.is c.in_ok-check_group.ensures.check))

pub returns-in-Whole-clause-read : goal.returns-in-Whole-clause-read
returns-in-Whole-clause-read g c = only_read_more c.check_group.ensures.read c.group_at.ensures.read

pub returns-in-Bad-clause-row : goal.returns-in-Bad-clause-row
returns-in-Bad-clause-row g c =
    bad_row (map g.L.Lines.history c.args.parts.now) c.args.bounds.now c.args.number c.in-Bad.number c.in_ok-check_group.field-0 c.in-Bad.is c.requires.header
    c.in_ok-check_group.ensures.check
