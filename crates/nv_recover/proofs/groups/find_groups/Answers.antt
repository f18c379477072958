use Rattle.std.proofs.Common.{◌≡◌, ◌+◌, List, Err, map, refl, ap, ◌∙◌, subst, arith}
use Rattle.std.proofs.lemmas.Result.{err_from_is_err_and}
use Rattle.nv_pmem.specs.Part.{Part}
use Rattle.nv_pmem.specs.Rows.{RowTells, row_words}
use Rattle.nv_pmem.specs.Steps.{PartHistory}
use Rattle.nv_pmem.proofs.ReadLaws.{only_read_none, only_read_more}
use Rattle.nv_pmem.proofs.RowLaws.{row_tells_more, row_tells_both}
use Rattle.nv_entry.proofs.Slots.{slots_still}
use Rattle.nv_entry.specs.Checks.{SaysBounds}
use Rattle.nv_recover.specs.Finding.{HasFound}
use Rattle.nv_plain.specs.Images.{layout_in}
use Rattle.nv_recover.specs.Groups.{AreGroups, IsLeastBad}
use Rattle.nv_recover.specs.declared.error.RecoverError.TheVariants.{BadEntry}
use Rattle.nv_recover.proofs.Finding.{found_none, found_all}
use Rattle.nv_recover.proofs.groups.find_groups.Goals as goal

pub loop-number-init : goal.loop-number-init
loop-number-init g c =
    let row : List PartHistory = map g.L.Lines.history c.args.parts.now in
    record {
      found =
          row_tells_more row (λ parts. SaysBounds c.args.bounds.now (row_words parts))
          (λ parts. HasFound (row_words parts) c.args.bounds.now.tail c.args.bounds.now.tail c.new-groups.result.items)
          (λ parts says. rw c.new-groups.ensures.items (found_none (row_words parts) c.args.bounds.now.tail says.tail))
          c.requires.header;
      read = only_read_none g.L.Lines.history g.L.Lines.room g.L.Lines.device c.args.parts.now;
      faults = refl;
    }

pub look_at-requires-clause-lines : goal.look_at-requires-clause-lines
look_at-requires-clause-lines g c =
    slots_still g.L.Lines.room 1 c.args.bounds.now.entries c.args.parts.now c.loop-number.parts c.loop-number.invariant.read.rooms c.requires.lines

pub returns-in_err-look_at-clause-bad : goal.returns-in_err-look_at-clause-bad
returns-in_err-look_at-clause-bad g c = λ bad is.
    let first : List PartHistory = map g.L.Lines.history c.args.parts.now in
    let p = err_from_is_err_and c.from_residual.result c.from_residual.ensures.1 in
    let same : c.in_err-look_at.field-0.0 ≡ BadEntry bad = cc (p.1, p.2, is) in
    let So_far : List Part → Type 0 = λ parts. HasFound (row_words parts) c.args.bounds.now.tail c.loop-number.number c.loop-number.groups.items in
    let Then : List Part → Type 0 = λ parts. So_far parts → IsLeastBad (layout_in (row_words parts)) (row_words parts) bad in
    let At : List PartHistory → Type 0 = λ row. RowTells row Then in
    row_tells_more first (λ parts. So_far parts × Then parts) (λ parts. IsLeastBad (layout_in (row_words parts)) (row_words parts) bad)
    (λ parts both. both.1 both.0)
    (row_tells_both first So_far Then c.loop-number.invariant.found
    (subst At c.loop-number.invariant.read.histories (c.look_at.ensures.bad bad (c.in_err-look_at.was ∙ ap Err same))))

pub returns-in_err-look_at-clause-read : goal.returns-in_err-look_at-clause-read
returns-in_err-look_at-clause-read g c = only_read_more c.loop-number.invariant.read c.look_at.ensures.read

pub loop-number-preserved : goal.loop-number-preserved
loop-number-preserved g c =
    let first : List PartHistory = map g.L.Lines.history c.args.parts.now in
    let So_far : List Part → Type 0 = λ parts. HasFound (row_words parts) c.args.bounds.now.tail c.loop-number.number c.loop-number.groups.items in
    let Now : List Part → Type 0 = λ parts. HasFound (row_words parts) c.args.bounds.now.tail (c.loop-number.number + 1) c.look_at.new.groups.items in
    let Then : List Part → Type 0 = λ parts. So_far parts → Now parts in
    let At : List PartHistory → Type 0 = λ row. RowTells row Then in
    record {
      found =
          row_tells_more first (λ parts. So_far parts × Then parts) Now (λ parts both. both.1 both.0)
          (row_tells_both first So_far Then c.loop-number.invariant.found
          (subst At c.loop-number.invariant.read.histories c.in_ok-look_at.ensures.found));
      read = only_read_more c.loop-number.invariant.read c.look_at.ensures.read;
      faults = c.in_ok-look_at.ensures.cause ∙ c.loop-number.invariant.faults;
    }

pub returns-clause-found : goal.returns-clause-found
returns-clause-found g c =
    let first : List PartHistory = map g.L.Lines.history c.args.parts.now in
    let So_far : List Part → Type 0 = λ parts. HasFound (row_words parts) c.args.bounds.now.tail c.loop-number.number c.loop-number.groups.items in
    let Says : List Part → Type 0 = λ parts. SaysBounds c.args.bounds.now (row_words parts) in
    row_tells_more first (λ parts. Says parts × So_far parts) (λ parts. AreGroups (row_words parts) c.loop-number.groups.items)
    (λ parts both.
    found_all (row_words parts) c.args.bounds.now.tail c.args.bounds.now.entries c.loop-number.number c.loop-number.groups.items both.0.entries
    (omega arith) (omega arith) both.1)
    (row_tells_both first Says So_far c.requires.header c.loop-number.invariant.found)
