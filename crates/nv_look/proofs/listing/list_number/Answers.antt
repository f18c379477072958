use Rattle.std.proofs.Common.{◌≡◌, ◌≢◌, ◌+◌, List, map, sym, ap, ◌∙◌, subst, arith}
use Rattle.nv_plain.specs.Images.{entry_at}
use Rattle.nv_pmem.specs.Part.{Part}
use Rattle.nv_pmem.specs.Rows.{RowTells, row_words}
use Rattle.nv_pmem.specs.Steps.{PartHistory}
use Rattle.nv_pmem.proofs.ReadLaws.{only_read_more}
use Rattle.nv_pmem.proofs.RowLaws.{row_tells_more, row_tells_both}
use Rattle.nv_entry.proofs.Slots.{slots_still}
use Rattle.nv_entry.specs.Checks.{as_entry}
use Rattle.nv_look.specs.Listings.{IsRow}
use Rattle.nv_look.specs.Walks.{HasListed}
use Rattle.nv_look.specs.declared.listing.Row.{Row}
use Rattle.nv_look.proofs.WalkLaws.{listed_past, listed_more}
use Rattle.nv_look.proofs.listing.list_number.Goals as goal

pub returns-then-entry-number-clause-listed : goal.returns-then-entry-number-clause-listed
returns-then-entry-number-clause-listed g c =
    let differs : c.in_ok-entry.entry.commit ≢ c.args.number + 1 = omega arith in
    row_tells_more (map g.L.Lines.history c.args.parts.now) (λ parts. as_entry c.in_ok-entry.entry ≡ entry_at (row_words parts) c.args.number)
    (λ parts. HasListed (row_words parts) c.args.bounds.now.tail c.args.number c.args.rows.now.items
    → HasListed (row_words parts) c.args.bounds.now.tail (c.args.number + 1) c.args.rows.now.items)
    (λ parts has so_far.
    listed_past (row_words parts) c.args.bounds.now.tail c.args.number c.args.rows.now.items c.requires.from
    (λ commit. differs (ap (λ entry. entry.commit) has ∙ commit)) so_far)
    c.in_ok-entry.ensures.words

pub row_at-requires-clause-lines : goal.row_at-requires-clause-lines
row_at-requires-clause-lines g c =
    slots_still g.L.Lines.room 1 c.args.bounds.now.entries c.args.parts.now c.read_entry.new.parts c.in_ok-entry.ensures.read.rooms c.requires.lines

pub returns-in_err-row-clause-read : goal.returns-in_err-row-clause-read
returns-in_err-row-clause-read g c = only_read_more c.in_ok-entry.ensures.read c.row_at.ensures.read

pub returns-in_err-push-clause-read : goal.returns-in_err-push-clause-read
returns-in_err-push-clause-read g c = only_read_more c.in_ok-entry.ensures.read c.row_at.ensures.read

pub returns-clause-read : goal.returns-clause-read
returns-clause-read g c = only_read_more c.in_ok-entry.ensures.read c.row_at.ensures.read

pub returns-clause-listed : goal.returns-clause-listed
returns-clause-listed g c =
    let first : List PartHistory = map g.L.Lines.history c.args.parts.now in
    let commit : c.in_ok-entry.entry.commit ≡ c.args.number + 1 = omega arith in
    let row : Row = c.in_ok-row.row in
    let rows : List Row = c.args.rows.now.items in
    let Has : List Part → Type 0 = λ parts. as_entry c.in_ok-entry.entry ≡ entry_at (row_words parts) c.args.number in
    let Is : List Part → Type 0 = λ parts. IsRow (row_words parts) c.args.number row in
    let At : List PartHistory → Type 0 = λ these. RowTells these Is in
    let tail = c.args.bounds.now.tail in
    row_tells_more first (λ parts. Has parts × Is parts)
    (λ parts. HasListed (row_words parts) tail c.args.number rows → HasListed (row_words parts) tail (c.args.number + 1) c.push.new.self.items)
    (λ parts both so_far.
    let Listed : List Row → Type 0 = HasListed (row_words parts) tail (c.args.number + 1) in
    subst Listed (sym c.in_ok-push.ensures.items)
    (listed_more (row_words parts) tail c.args.number rows row c.requires.from (sym (ap (λ entry. entry.commit) both.0) ∙ commit) both.1 so_far))
    (row_tells_both first Has Is c.in_ok-entry.ensures.words (subst At c.in_ok-entry.ensures.read.histories c.in_ok-row.ensures.row))
