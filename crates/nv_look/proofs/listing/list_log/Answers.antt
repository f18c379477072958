use Rattle.std.proofs.Common.{◌≡◌, ◌+◌, List, [], map, refl, ◌∙◌, subst, arith}
use Rattle.std.proofs.lemmas.List.Elements.{All-nil}
use Rattle.nv_pmem.specs.Part.{Part}
use Rattle.nv_pmem.specs.Rows.{RowTells, row_words}
use Rattle.nv_pmem.specs.Steps.{PartHistory}
use Rattle.nv_pmem.proofs.ReadLaws.{only_read_none, only_read_more}
use Rattle.nv_pmem.proofs.RowLaws.{row_tells_more, row_tells_both}
use Rattle.nv_entry.proofs.Slots.{slots_still}
use Rattle.nv_entry.specs.Checks.{SaysBounds}
use Rattle.nv_look.specs.Listings.{IsListing}
use Rattle.nv_look.specs.Rows.{IsInRange}
use Rattle.nv_look.specs.Walks.{HasListed}
use Rattle.nv_look.proofs.WalkLaws.{listed_none, listed_all}
use Rattle.nv_look.proofs.listing.list_log.Goals as goal

pub loop-number-init : goal.loop-number-init
loop-number-init g c =
    let row : List PartHistory = map g.L.Lines.history c.args.parts.now in
    let tail = c.args.bounds.now.tail in
    let empty : c.new-rows.result.items ≡ [] = c.new-rows.ensures.items in
    record {
      listed =
          row_tells_more row (λ parts. SaysBounds c.args.bounds.now (row_words parts)) (λ parts. HasListed (row_words parts) tail tail c.new-rows.result.items)
          (λ parts says. rw empty (listed_none (row_words parts) tail says.tail)) c.requires.header;
      range = rw empty (All-nil IsInRange);
      read = only_read_none g.L.Lines.history g.L.Lines.room g.L.Lines.device c.args.parts.now;
      faults = refl;
    }

pub list_number-requires-clause-lines : goal.list_number-requires-clause-lines
list_number-requires-clause-lines g c =
    slots_still g.L.Lines.room 1 c.args.bounds.now.entries c.args.parts.now c.loop-number.parts c.loop-number.invariant.read.rooms c.requires.lines

pub returns-in_err-list_number-clause-read : goal.returns-in_err-list_number-clause-read
returns-in_err-list_number-clause-read g c = only_read_more c.loop-number.invariant.read c.list_number.ensures.read

pub loop-number-preserved : goal.loop-number-preserved
loop-number-preserved g c =
    let first : List PartHistory = map g.L.Lines.history c.args.parts.now in
    let tail = c.args.bounds.now.tail in
    let So_far : List Part → Type 0 = λ parts. HasListed (row_words parts) tail c.loop-number.number c.loop-number.rows.items in
    let Now : List Part → Type 0 = λ parts. HasListed (row_words parts) tail (c.loop-number.number + 1) c.list_number.new.rows.items in
    let Then : List Part → Type 0 = λ parts. So_far parts → Now parts in
    let At : List PartHistory → Type 0 = λ row. RowTells row Then in
    record {
      listed =
          row_tells_more first (λ parts. So_far parts × Then parts) Now (λ parts both. both.1 both.0)
          (row_tells_both first So_far Then c.loop-number.invariant.listed
          (subst At c.loop-number.invariant.read.histories c.in_ok-list_number.ensures.listed));
      range = c.in_ok-list_number.ensures.range c.loop-number.invariant.range;
      read = only_read_more c.loop-number.invariant.read c.list_number.ensures.read;
      faults = c.in_ok-list_number.ensures.cause ∙ c.loop-number.invariant.faults;
    }

pub returns-clause-listing : goal.returns-clause-listing
returns-clause-listing g c =
    let first : List PartHistory = map g.L.Lines.history c.args.parts.now in
    let bounds = c.args.bounds.now in
    let Says : List Part → Type 0 = λ parts. SaysBounds bounds (row_words parts) in
    let So_far : List Part → Type 0 = λ parts. HasListed (row_words parts) bounds.tail c.loop-number.number c.loop-number.rows.items in
    row_tells_more first (λ parts. Says parts × So_far parts) (λ parts. IsListing (row_words parts) c.loop-number.rows.items)
    (λ parts both.
    listed_all (row_words parts) bounds.tail bounds.entries c.loop-number.number c.loop-number.rows.items both.0.entries (omega arith) (omega arith) both.1)
    (row_tells_both first Says So_far c.requires.header c.loop-number.invariant.listed)
