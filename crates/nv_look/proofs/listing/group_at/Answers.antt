use Rattle.std.proofs.Common.{◌≡◌, List, map, refl, sym, ap, subst}
use Rattle.nv_plain.specs.Images.{entry_at}
use Rattle.nv_pmem.specs.Part.{Part}
use Rattle.nv_pmem.specs.Rows.{RowTells, row_words}
use Rattle.nv_pmem.specs.Steps.{PartHistory}
use Rattle.nv_pmem.proofs.ReadLaws.{only_read_more}
use Rattle.nv_pmem.proofs.RowLaws.{row_tells_more, row_tells_both}
use Rattle.nv_entry.proofs.Slots.{slots_still}
use Rattle.nv_entry.specs.Checks.{SaysBounds, as_entry}
use Rattle.nv_look.specs.Listings.{IsRow, group_bytes}
use Rattle.nv_look.specs.Walks.{IsWholeWalk}
use Rattle.nv_look.specs.declared.listing.Row.TheVariants.{Group}
use Rattle.nv_look.proofs.listing.group_at.Goals as goal

pub group_len-requires-clause-lines : goal.group_len-requires-clause-lines
group_len-requires-clause-lines g c =
    slots_still g.L.Lines.room 1 c.args.bounds.now.entries c.args.parts.now c.read_entry.new.parts c.read_entry.ensures.read.rooms c.requires.lines

pub group_len-requires-clause-header : goal.group_len-requires-clause-header
group_len-requires-clause-header g c =
    let Says : List PartHistory → Type 0 = λ row. RowTells row (λ told. SaysBounds c.args.bounds.now (row_words told)) in
    subst Says (sym c.read_entry.ensures.read.histories) c.requires.header

pub group_len-requires-clause-whole : goal.group_len-requires-clause-whole
group_len-requires-clause-whole g c =
    let Is : List PartHistory → Type 0 = λ row. RowTells row (λ told. IsWholeWalk (row_words told) c.args.leader c.args.count) in
    subst Is (sym c.read_entry.ensures.read.histories) c.requires.whole

pub returns-clause-read : goal.returns-clause-read
returns-clause-read g c = only_read_more c.read_entry.ensures.read c.group_len.ensures.read

pub returns-in_err-len-clause-read : goal.returns-in_err-len-clause-read
returns-in_err-len-clause-read g c = only_read_more c.read_entry.ensures.read c.group_len.ensures.read

pub returns-clause-row : goal.returns-clause-row
returns-clause-row g c =
    let row : List PartHistory = map g.L.Lines.history c.args.parts.now in
    let leader = c.args.leader in
    let words = c.in_ok-file.field-0 in
    let len = c.in_ok-len.len in
    let Is : List Part → Type 0 = λ parts. IsWholeWalk (row_words parts) leader c.args.count in
    let Read : List Part → Type 0 = λ parts. as_entry words ≡ entry_at (row_words parts) leader in
    let Has : List Part → Type 0 = λ parts. len ≡ group_bytes (row_words parts) leader in
    let At : List PartHistory → Type 0 = λ row. RowTells row Has in
    row_tells_more row (λ parts. Is parts × (Read parts × Has parts)) (λ parts. IsRow (row_words parts) leader (Group leader c.args.count words.head.file words.head.at len))
    (λ parts all. (refl, all.0.0, all.0.1, ap (λ e. e.file) all.1.0, ap (λ e. e.at) all.1.0, all.1.1))
    (row_tells_both row Is (λ parts. Read parts × Has parts) c.requires.whole
    (row_tells_both row Read Has c.in_ok-file.ensures.words (subst At c.read_entry.ensures.read.histories c.in_ok-len.ensures.len)))
