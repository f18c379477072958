use Rattle.std.proofs.Common.{◌≡◌, ◌+◌, ◌-◌, ◌^◌, min, List, map, refl, sym, ap, ◌∙◌, subst, arith}
use Rattle.nv_plain.specs.Images.{entry_at}
use Rattle.nv_pmem.specs.Part.{Part}
use Rattle.nv_pmem.specs.Rows.{RowTells, row_words}
use Rattle.nv_pmem.specs.Steps.{PartHistory}
use Rattle.nv_pmem.proofs.ReadLaws.{only_read_none, only_read_more}
use Rattle.nv_pmem.proofs.RowLaws.{row_tells_any, row_tells_more, row_tells_both}
use Rattle.nv_entry.proofs.Slots.{slots_still}
use Rattle.nv_entry.specs.Checks.{SaysBounds, as_entry}
use Rattle.nv_look.specs.Listings.{group_bytes}
use Rattle.nv_look.specs.Walks.{IsWholeWalk}
use Rattle.nv_look.proofs.WalkLaws.{HasSummed, summed_none, summed_more, summed_all}
use Rattle.nv_look.proofs.listing.group_len.Goals as goal

pub loop-number-init : goal.loop-number-init
loop-number-init g c = record {
  summed = row_tells_any (map g.L.Lines.history c.args.parts.now) (λ parts. HasSummed (row_words parts) c.args.leader c.args.leader 0) (λ parts. summed_none (row_words parts) c.args.leader);
  read = only_read_none g.L.Lines.history g.L.Lines.room g.L.Lines.device c.args.parts.now;
  faults = refl;
}

pub read_entry-requires-clause-lines : goal.read_entry-requires-clause-lines
read_entry-requires-clause-lines g c =
    slots_still g.L.Lines.room 1 c.args.bounds.now.entries c.args.parts.now c.loop-number.parts c.loop-number.invariant.read.rooms c.requires.lines

pub read_entry-requires-clause-header : goal.read_entry-requires-clause-header
read_entry-requires-clause-header g c =
    let Says : List PartHistory → Type 0 = λ row. RowTells row (λ told. SaysBounds c.args.bounds.now (row_words told)) in
    subst Says (sym c.loop-number.invariant.read.histories) c.requires.header

pub returns-in_err-read_entry-clause-read : goal.returns-in_err-read_entry-clause-read
returns-in_err-read_entry-clause-read g c = only_read_more c.loop-number.invariant.read c.read_entry.ensures.read

pub loop-number-preserved : goal.loop-number-preserved
loop-number-preserved g c =
    let row : List PartHistory = map g.L.Lines.history c.args.parts.now in
    let bounds = c.args.bounds.now in
    let leader = c.args.leader in
    let number = c.loop-number.number in
    let len = c.loop-number.len in
    let words = c.in_ok-read_entry.field-0 in
    let next = c.saturating_add-len.result in
    let sum : next ≡ min (len + words.head.size) (2 ^ 64 - 1) = omega (arith, c.saturating_add-len.ensures) in
    let Says : List Part → Type 0 = λ parts. SaysBounds bounds (row_words parts) in
    let Is : List Part → Type 0 = λ parts. IsWholeWalk (row_words parts) leader c.args.count in
    let So_far : List Part → Type 0 = λ parts. HasSummed (row_words parts) leader number len in
    let Read : List Part → Type 0 = λ parts. as_entry words ≡ entry_at (row_words parts) number in
    let At : List PartHistory → Type 0 = λ row. RowTells row Read in
    record {
      summed =
          row_tells_more row (λ parts. (Says parts × Is parts) × (So_far parts × Read parts)) (λ parts. HasSummed (row_words parts) leader (number + 1) next)
          (λ parts all. summed_more (row_words parts) bounds leader c.args.count number len words.head.size next sum all.0.0 all.0.1 c.loop-number.auto.number (omega arith) (ap (λ e. e.size) all.1.1) all.1.0)
          (row_tells_both row (λ parts. Says parts × Is parts) (λ parts. So_far parts × Read parts) (row_tells_both row Says Is c.requires.header c.requires.whole)
          (row_tells_both row So_far Read c.loop-number.invariant.summed (subst At c.loop-number.invariant.read.histories c.in_ok-read_entry.ensures.words)));
      read = only_read_more c.loop-number.invariant.read c.read_entry.ensures.read;
      faults = c.in_ok-read_entry.ensures.cause ∙ c.loop-number.invariant.faults;
    }

pub returns-clause-len : goal.returns-clause-len
returns-clause-len g c =
    let row : List PartHistory = map g.L.Lines.history c.args.parts.now in
    let leader = c.args.leader in
    let number = c.loop-number.number in
    let len = c.loop-number.len in
    let Is : List Part → Type 0 = λ parts. IsWholeWalk (row_words parts) leader c.args.count in
    let So_far : List Part → Type 0 = λ parts. HasSummed (row_words parts) leader number len in
    row_tells_more row (λ parts. Is parts × So_far parts) (λ parts. len ≡ group_bytes (row_words parts) leader)
    (λ parts both. summed_all (row_words parts) leader c.args.count number len both.0 (omega arith) (omega arith) both.1)
    (row_tells_both row Is So_far c.requires.whole c.loop-number.invariant.summed)
