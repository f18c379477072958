use Rattle.std.proofs.Common.{◌≡◌, ◌≢◌, ◌+◌, List, Err, map, sym, ap, ◌∙◌, subst, arith}
use Rattle.std.proofs.lemmas.Result.{err_from_is_err_and}
use Rattle.nv_plain.specs.Images.{entry_at, layout_in}
use Rattle.nv_plain.specs.Recovered.{IsGroup}
use Rattle.nv_pmem.specs.Part.{Part}
use Rattle.nv_pmem.specs.Rows.{RowTells, row_words}
use Rattle.nv_pmem.specs.Steps.{PartHistory}
use Rattle.nv_pmem.proofs.ReadLaws.{only_read_more}
use Rattle.nv_pmem.proofs.RowLaws.{row_tells_more, row_tells_both}
use Rattle.nv_entry.proofs.Slots.{slots_still}
use Rattle.nv_entry.specs.Checks.{IsFirstBad, SaysBounds, as_entry}
use Rattle.nv_recover.specs.Finding.{HasFound}
use Rattle.nv_recover.specs.Groups.{IsLeastBad}
use Rattle.nv_recover.specs.declared.error.RecoverError.TheVariants.{BadEntry}
use Rattle.nv_recover.proofs.Finding.{found_past, found_more, found_bad}
use Rattle.nv_recover.proofs.groups.look_at.Goals as goal

pub returns-then-entry-number-clause-found : goal.returns-then-entry-number-clause-found
returns-then-entry-number-clause-found g c =
    let row : List PartHistory = map g.L.Lines.history c.args.parts.now in
    let differs : c.in_ok-entry.entry.commit ≢ c.args.number + 1 = omega arith in
    row_tells_more row (λ parts. as_entry c.in_ok-entry.entry ≡ entry_at (row_words parts) c.args.number)
    (λ parts. HasFound (row_words parts) c.args.bounds.now.tail c.args.number c.args.groups.now.items
    → HasFound (row_words parts) c.args.bounds.now.tail (c.args.number + 1) c.args.groups.now.items)
    (λ parts has so_far.
    found_past (row_words parts) c.args.bounds.now.tail c.args.number c.args.groups.now.items c.requires.from
    (λ commit. differs (ap (λ entry. entry.commit) has ∙ commit)) so_far)
    c.in_ok-entry.ensures.words

pub checked-requires-clause-lines : goal.checked-requires-clause-lines
checked-requires-clause-lines g c =
    slots_still g.L.Lines.room 1 c.args.bounds.now.entries c.args.parts.now c.read_entry.new.parts c.in_ok-entry.ensures.read.rooms c.requires.lines

pub returns-in_err-group-clause-bad : goal.returns-in_err-group-clause-bad
returns-in_err-group-clause-bad g c = λ bad is.
    let first : List PartHistory = map g.L.Lines.history c.args.parts.now in
    let p = err_from_is_err_and c.from_residual-in_err-group.result c.from_residual-in_err-group.ensures.1 in
    let same : c.in_err-group.field-0.0 ≡ BadEntry bad = cc (p.1, p.2, is) in
    let breaks = c.checked.ensures.bad bad (c.in_err-group.was ∙ ap Err same) in
    let commit : c.in_ok-entry.entry.commit ≡ c.args.number + 1 = omega arith in
    let Has : List Part → Type 0 = λ parts. as_entry c.in_ok-entry.entry ≡ entry_at (row_words parts) c.args.number in
    let Breaks : List Part → Type 0 = λ parts. IsFirstBad (layout_in (row_words parts)) (row_words parts) c.args.number bad in
    let Says : List Part → Type 0 = λ parts. SaysBounds c.args.bounds.now (row_words parts) in
    let Both : List Part → Type 0 = λ parts. Has parts × Breaks parts in
    let At : List PartHistory → Type 0 = λ row. RowTells row Breaks in
    row_tells_more first (λ parts. Says parts × Both parts)
    (λ parts. HasFound (row_words parts) c.args.bounds.now.tail c.args.number c.args.groups.now.items → IsLeastBad (layout_in (row_words parts)) (row_words parts) bad)
    (λ parts all so_far.
    found_bad (row_words parts) c.args.bounds.now.tail c.args.number bad c.args.groups.now.items c.requires.from
    (omega (arith, c.requires.below, all.0.entries)) (sym (ap (λ entry. entry.commit) all.1.0) ∙ commit) all.1.1 so_far)
    (row_tells_both first Says Both c.requires.header
    (row_tells_both first Has Breaks c.in_ok-entry.ensures.words (subst At c.in_ok-entry.ensures.read.histories breaks)))

pub returns-in_err-group-clause-read : goal.returns-in_err-group-clause-read
returns-in_err-group-clause-read g c = only_read_more c.in_ok-entry.ensures.read c.checked.ensures.read

pub returns-in_err-push-clause-read : goal.returns-in_err-push-clause-read
returns-in_err-push-clause-read g c = only_read_more c.in_ok-entry.ensures.read c.in_ok-group.ensures.read

pub returns-clause-found : goal.returns-clause-found
returns-clause-found g c =
    let first : List PartHistory = map g.L.Lines.history c.args.parts.now in
    let commit : c.in_ok-entry.entry.commit ≡ c.args.number + 1 = omega arith in
    let group = c.in_ok-group.group in
    let Has : List Part → Type 0 = λ parts. as_entry c.in_ok-entry.entry ≡ entry_at (row_words parts) c.args.number in
    let Whole : List Part → Type 0 = λ parts.
    IsGroup (layout_in (row_words parts)) (row_words parts) c.args.number × (group.count ≡ (entry_at (row_words parts) c.args.number).count) in
    let At : List PartHistory → Type 0 = λ row. RowTells row Whole in
    let items = c.in_ok-push.ensures.items in
    row_tells_more first (λ parts. Has parts × Whole parts)
    (λ parts. HasFound (row_words parts) c.args.bounds.now.tail c.args.number c.args.groups.now.items
    → HasFound (row_words parts) c.args.bounds.now.tail (c.args.number + 1) c.push.new.self.items)
    (λ parts both so_far.
    rw items (found_more (row_words parts) c.args.bounds.now.tail c.args.number c.args.groups.now.items group c.requires.from
    (sym (ap (λ entry. entry.commit) both.0) ∙ commit) c.in_ok-group.ensures.leader both.1.0 both.1.1 so_far))
    (row_tells_both first Has Whole c.in_ok-entry.ensures.words (subst At c.in_ok-entry.ensures.read.histories c.in_ok-group.ensures.whole))

pub returns-clause-read : goal.returns-clause-read
returns-clause-read g c = only_read_more c.in_ok-entry.ensures.read c.in_ok-group.ensures.read
