use Rattle.std.proofs.Common.{◌≡◌, ◌+◌, ◌-◌, List, map, sym, ap, ◌∙◌, subst, arith}
use Rattle.nv_plain.specs.Images.{entry_at}
use Rattle.nv_plain.specs.Layouts.{layout_of}
use Rattle.nv_pmem.specs.Part.{Part}
use Rattle.nv_pmem.specs.Rows.{RowTells, row_words}
use Rattle.nv_pmem.specs.Steps.{PartHistory}
use Rattle.nv_pmem.proofs.ReadLaws.{only_read_more}
use Rattle.nv_pmem.proofs.RowLaws.{row_tells_more, row_tells_both}
use Rattle.nv_entry.specs.Checks.{IsFirstBad, SaysBounds, SaysOfGroup, as_entry}
use Rattle.nv_entry.specs.declared.check.GroupCheck.TheVariants.{Whole, Bad}
use Rattle.nv_entry.proofs.Checking.{entry_tells, not_from_false, from_true, HasChecked, bad_first, checked_first, checked_next, checked_bad, checked_all}
use Rattle.nv_entry.proofs.Slots.{slots_still}
use Rattle.nv_entry.proofs.check.check_group.Goals as goal

pub returns-then-not-fit_first-clause-check : goal.returns-then-not-fit_first-clause-check
returns-then-not-fit_first-clause-check g c =
    let row : List PartHistory = map g.L.Lines.history c.args.parts.now in
    let Says : List Part → Type 0 = λ parts. SaysBounds c.args.bounds.now (row_words parts) in
    let Has : List Part → Type 0 = λ parts. as_entry c.in_ok-first.first ≡ entry_at (row_words parts) c.args.leader in
    row_tells_more row (λ parts. Says parts × Has parts) (λ parts. IsFirstBad (layout_of c.args.bounds.now.version) (row_words parts) c.args.leader c.args.leader)
    (λ parts both. bad_first (layout_of c.args.bounds.now.version) (row_words parts) c.args.leader
    (not_from_false c.fit_first.result _ c.if-not-fit_first.true (c.fit_first.ensures.good (row_words parts) both.0 both.1)))
    (row_tells_both row Says Has c.requires.header c.in_ok-first.ensures.words)

pub loop-number-init : goal.loop-number-init
loop-number-init g c =
    let row : List PartHistory = map g.L.Lines.history c.args.parts.now in
    let first = c.in_ok-first.first in
    let Says : List Part → Type 0 = λ parts. SaysBounds c.args.bounds.now (row_words parts) in
    let Has : List Part → Type 0 = λ parts. as_entry first ≡ entry_at (row_words parts) c.args.leader in
    record {
      checked =
          row_tells_more row (λ parts. Says parts × Has parts)
          (λ parts. HasChecked (layout_of c.args.bounds.now.version) (row_words parts) c.args.leader (c.args.leader + 1) first.head.count first.head.file (first.head.at + first.head.size))
          (λ parts both. checked_first (layout_of c.args.bounds.now.version) (row_words parts) c.args.leader first.head.count first.head.file (first.head.at + first.head.size)
          (ap (λ entry. entry.count) (sym both.1))
          (record { file = ap (λ entry. entry.file) (sym both.1); end = ap (λ entry. entry.at + entry.size) (sym both.1) })
          (from_true c.fit_first.result _ c.if-not-fit_first.false (c.fit_first.ensures.good (row_words parts) both.0 both.1)))
          (row_tells_both row Says Has c.requires.header c.in_ok-first.ensures.words);
      end = c.fit_first.ensures.end c.if-not-fit_first.false;
      read = c.in_ok-first.ensures.read;
      faults = c.in_ok-first.ensures.cause;
    }

pub read_entry-requires-in-loop-number-clause-lines : goal.read_entry-requires-in-loop-number-clause-lines
read_entry-requires-in-loop-number-clause-lines g c =
    slots_still g.L.Lines.room 1 c.args.bounds.now.entries c.args.parts.now c.loop-number.parts c.loop-number.invariant.read.rooms c.requires.lines

pub read_entry-requires-in-loop-number-clause-header : goal.read_entry-requires-in-loop-number-clause-header
read_entry-requires-in-loop-number-clause-header g c =
    let Says : List PartHistory → Type 0 = λ row. RowTells row (λ parts. SaysBounds c.args.bounds.now (row_words parts)) in
    subst Says (sym c.loop-number.invariant.read.histories) c.requires.header

pub returns-in_err-entry-clause-read : goal.returns-in_err-entry-clause-read
returns-in_err-entry-clause-read g c = only_read_more c.loop-number.invariant.read c.read_entry-in-loop-number.ensures.read

pub returns-then-not-fit_next-clause-check : goal.returns-then-not-fit_next-clause-check
returns-then-not-fit_next-clause-check g c =
    let row : List PartHistory = map g.L.Lines.history c.args.parts.now in
    let first = c.in_ok-first.first in
    let number = c.loop-number.number in
    let At : List PartHistory → Type 0 = λ these. RowTells these (λ parts. as_entry c.in_ok-entry.entry ≡ entry_at (row_words parts) number) in
    entry_tells (layout_of c.args.bounds.now.version) row c.args.bounds.now c.in_ok-entry.entry c.args.leader number first.head.count first.head.file c.loop-number.end
    (λ parts. SaysOfGroup (layout_of c.args.bounds.now.version) (row_words parts) c.args.leader (Bad number))
    (λ parts so_far says has.
    checked_bad (layout_of c.args.bounds.now.version) (row_words parts) c.args.leader number first.head.count first.head.file c.loop-number.end (omega arith) (omega arith) so_far
    (not_from_false c.fit_next.result _ c.if-not-fit_next.true
    (c.fit_next.ensures.good (row_words parts) (number - 1) says has so_far.ends (omega arith) (omega arith))))
    c.loop-number.invariant.checked c.requires.header (subst At c.loop-number.invariant.read.histories c.in_ok-entry.ensures.words)

pub returns-then-not-fit_next-clause-read : goal.returns-then-not-fit_next-clause-read
returns-then-not-fit_next-clause-read g c = only_read_more c.loop-number.invariant.read c.in_ok-entry.ensures.read

pub loop-number-preserved : goal.loop-number-preserved
loop-number-preserved g c =
    let row : List PartHistory = map g.L.Lines.history c.args.parts.now in
    let first = c.in_ok-first.first in
    let entry = c.in_ok-entry.entry in
    let number = c.loop-number.number in
    let At : List PartHistory → Type 0 = λ these. RowTells these (λ parts. as_entry entry ≡ entry_at (row_words parts) number) in
    record {
      checked =
          entry_tells (layout_of c.args.bounds.now.version) row c.args.bounds.now entry c.args.leader number first.head.count first.head.file c.loop-number.end
          (λ parts. HasChecked (layout_of c.args.bounds.now.version) (row_words parts) c.args.leader (number + 1) first.head.count first.head.file (c.loop-number.end + entry.head.size))
          (λ parts so_far says has.
          checked_next (layout_of c.args.bounds.now.version) (row_words parts) c.args.leader number first.head.count first.head.file c.loop-number.end entry.head.size (omega arith) so_far
          (ap (λ words. words.size) (sym has))
          (from_true c.fit_next.result _ c.if-not-fit_next.false
          (c.fit_next.ensures.good (row_words parts) (number - 1) says has so_far.ends (omega arith) (omega arith))))
          c.loop-number.invariant.checked c.requires.header (subst At c.loop-number.invariant.read.histories c.in_ok-entry.ensures.words);
      end = c.fit_next.ensures.end c.if-not-fit_next.false;
      read = only_read_more c.loop-number.invariant.read c.in_ok-entry.ensures.read;
      faults = c.in_ok-entry.ensures.cause ∙ c.loop-number.invariant.faults;
    }

pub returns-clause-check : goal.returns-clause-check
returns-clause-check g c =
    let row : List PartHistory = map g.L.Lines.history c.args.parts.now in
    let first = c.in_ok-first.first in
    row_tells_more row
    (λ parts. HasChecked (layout_of c.args.bounds.now.version) (row_words parts) c.args.leader c.loop-number.number first.head.count first.head.file c.loop-number.end)
    (λ parts. SaysOfGroup (layout_of c.args.bounds.now.version) (row_words parts) c.args.leader (Whole first.head.count))
    (λ parts so_far. (
      checked_all (layout_of c.args.bounds.now.version) (row_words parts) c.args.leader c.loop-number.number first.head.count first.head.file c.loop-number.end
          (c.fit_first.ensures.count c.if-not-fit_first.false).0 (omega arith) so_far,
      sym so_far.count_is,
    ))
    c.loop-number.invariant.checked
