use Rattle.std.proofs.Common.{◌≡◌, ℕ, List, map, subst}
use Rattle.nv_plain.specs.Images.{layout_in}
use Rattle.nv_plain.specs.Layouts.{layout_of}
use Rattle.nv_pmem.specs.Rows.{RowTells, row_words}
use Rattle.nv_pmem.specs.Steps.{PartHistory}
use Rattle.nv_entry.specs.Checks.{IsFirstBad, SaysOfGroup}
use Rattle.nv_entry.specs.declared.check.GroupCheck.{GroupCheck}
use Rattle.nv_entry.specs.declared.check.GroupCheck.TheVariants.{Whole, Bad}
use Rattle.nv_recover.proofs.HeadRows.{by_own}
use Rattle.nv_recover.proofs.groups.checked.Goals as goal

pub returns-in-Whole-clause-whole : goal.returns-in-Whole-clause-whole
returns-in-Whole-clause-whole g c =
    let row : List PartHistory = map g.L.Lines.history c.args.parts.now in
    let layout = layout_of c.args.bounds.now.version in
    let Says : GroupCheck → Type 0 = λ check. RowTells row (λ parts. SaysOfGroup layout (row_words parts) c.args.leader check) in
    by_own row c.args.bounds.now (λ layout image. SaysOfGroup layout image c.args.leader (Whole c.in-Whole.count)) c.requires.header
    (subst Says c.in-Whole.is c.in_ok-count.ensures.check)

pub returns-in-Bad-clause-bad : goal.returns-in-Bad-clause-bad
returns-in-Bad-clause-bad g c number is =
    let row : List PartHistory = map g.L.Lines.history c.args.parts.now in
    let layout = layout_of c.args.bounds.now.version in
    let Says : GroupCheck → Type 0 = λ check. RowTells row (λ parts. SaysOfGroup layout (row_words parts) c.args.leader check) in
    let Bad_at : ℕ → Type 0 = λ bad. RowTells row (λ told. IsFirstBad (layout_in (row_words told)) (row_words told) c.args.leader bad) in
    let same : c.in-Bad.number ≡ number = cc in
    subst Bad_at same
    (by_own row c.args.bounds.now (λ layout image. SaysOfGroup layout image c.args.leader (Bad c.in-Bad.number)) c.requires.header
    (subst Says c.in-Bad.is c.in_ok-count.ensures.check))
