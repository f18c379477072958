use Rattle.std.proofs.Common.{◌≡◌, List, Err, map, sym, ap, ◌∙◌, subst}
use Rattle.std.proofs.lemmas.Result.{err_from_is_err_and}
use Rattle.nv_plain.specs.Images.{layout_in}
use Rattle.nv_pmem.specs.Rows.{RowTells, row_words}
use Rattle.nv_pmem.specs.Steps as lines
use Rattle.nv_pmem.proofs.ReadLaws.{only_read_more}
use Rattle.nv_pmem.proofs.RowLaws.{row_tells_more}
use Rattle.nv_entry.specs.Checks.{SaysBounds}
use Rattle.nv_recover.specs.Groups.{IsLeastBad}
use Rattle.nv_recover.specs.declared.error.RecoverError.TheVariants.{BadEntry}
use Rattle.nv_recover.proofs.RoomLaws.{slots_some, parts_slots, parts_still}
use Rattle.nv_recover.proofs.recovering.replay_log.Goals as goal

pub read_log-requires-clause-lines : goal.read_log-requires-clause-lines
read_log-requires-clause-lines g c =
    slots_some g.L.Lines.room c.args.bounds.now.page c.args.bounds.now.entries c.args.parts.now c.requires.parts

pub replay-requires-clause-lines : goal.replay-requires-clause-lines
replay-requires-clause-lines g c =
    let page = c.args.bounds.now.page in
    let entries = c.args.bounds.now.entries in
    parts_slots g.L.Lines.room page entries c.read_log.new.parts
    (parts_still g.L.Lines.room page entries c.args.parts.now c.read_log.new.parts c.read_log.ensures.read.rooms c.requires.parts)

pub replay-requires-clause-header : goal.replay-requires-clause-header
replay-requires-clause-header g c =
    let Says : List lines.PartHistory → Type 0 = λ row. RowTells row (λ told. SaysBounds c.args.bounds.now (row_words told)) in
    subst Says (sym c.read_log.ensures.read.histories) c.requires.header

pub returns-in_err-replay-clause-bad : goal.returns-in_err-replay-clause-bad
returns-in_err-replay-clause-bad g c number is =
    let p = err_from_is_err_and c.from_residual-in_err-replay.result c.from_residual-in_err-replay.ensures.1 in
    let same : c.in_err-replay.field-0.0 ≡ BadEntry number = cc (p.1, p.2, is) in
    let Never : List lines.PartHistory → Type 0 = λ row. RowTells row (λ parts. ⊥) in
    row_tells_more (map g.L.Lines.history c.args.parts.now) (λ parts. ⊥) (λ parts. IsLeastBad (layout_in (row_words parts)) (row_words parts) number) (λ parts never. absurd never)
    (subst Never c.read_log.ensures.read.histories (c.replay.ensures.bad number (c.in_err-replay.was ∙ ap Err same)))

pub returns-in_err-replay-clause-read : goal.returns-in_err-replay-clause-read
returns-in_err-replay-clause-read g c = only_read_more c.read_log.ensures.read c.replay.ensures.read

pub returns-clause-read : goal.returns-clause-read
returns-clause-read g c = only_read_more c.read_log.ensures.read c.replay.ensures.read
