use Rattle.std.proofs.Common.{List, [], map, sym, ◌∙◌, subst, arith}
use Rattle.std.proofs.lemmas.Result.{err_from_is_err_and}
use Rattle.nv_plain.specs.Layouts.{layout_of}
use Rattle.nv_pmem.specs.Moments.{Tells}
use Rattle.nv_pmem.specs.Rows.{RowTells, row_words}
use Rattle.nv_pmem.specs.Steps.{PartHistory}
use Rattle.nv_pmem.proofs.ReadLaws.{only_read_more}
use Rattle.nv_header.specs.Heads.{IsHeadOf, header_image}
use Rattle.nv_header.specs.Needs.{header_history, header_lines_in}
use Rattle.nv_look.specs.Texts.{IsLookText}
use Rattle.nv_open.proofs.HeadLaws.{error_is, some_part}
use Rattle.nv_open.proofs.LineCounts.{has_lines_same, kept_counts, kept_spare}
use Rattle.nv_open.proofs.Looks.{head_needs, no_refusal, region_shown}
use Rattle.nv_open.proofs.Versions.{least_lines}
use Rattle.nv_open.proofs.looking.look_at_parts.Goals as goal

pub look-requires-clause-head : goal.look-requires-clause-head
look-requires-clause-head g c =
    let old = c.args.parts.now in
    let Says : List PartHistory → Type 0 = λ row. Tells (header_history row) (λ now. IsHeadOf (layout_of c.in_ok-head.head.version) (header_lines_in (map g.L.Lines.room old)) (header_image now) c.in_ok-head.head) in
    head_needs (map g.L.Lines.history c.read_header.new.parts) (header_lines_in (map g.L.Lines.room old)) c.in_ok-head.head
    (subst Says (sym c.in_ok-head.ensures.read.histories) c.in_ok-head.ensures.head)

pub look-requires-clause-parts : goal.look-requires-clause-parts
look-requires-clause-parts g c =
    let head = c.in_ok-head.head in
    c.needed_lines_make_parts.ensures (layout_of head.version) head.geometry.page head.geometry.entries (map g.L.Lines.room c.read_header.new.parts) c.in_ok-head.ensures.lines
    (kept_spare g.L.Lines.room c.args.parts.now c.read_header.new.parts c.in_ok-head.ensures.read.rooms c.requires.spare)

pub returns-clause-text : goal.returns-clause-text
returns-clause-text g c =
    let history = g.L.Lines.history in
    let room = g.L.Lines.room in
    let old = c.args.parts.now in
    let mid = c.read_header.new.parts in
    let head = c.in_ok-head.head in
    let has = has_lines_same (layout_of head.version) head.geometry.page head.geometry.entries (map room mid) (map room old) (kept_counts room old mid c.in_ok-head.ensures.read.rooms) c.in_ok-head.ensures.lines in
    let Shows : List PartHistory → Type 0 = λ row. RowTells row (λ told. IsLookText head (row_words told) [] c.in_ok-look.field-0) in
    region_shown history room g.met.L.Lines.told_lines old head (some_part room old (λ short. omega (arith, has.header, least_lines head.version))) has c.in_ok-head.ensures.head [] c.in_ok-look.field-0
    (subst Shows c.in_ok-head.ensures.read.histories c.in_ok-look.ensures.text)

pub returns-clause-read : goal.returns-clause-read
returns-clause-read g c = only_read_more c.in_ok-head.ensures.read c.look.ensures.read

pub returns-in_err-look-clause-read : goal.returns-in_err-look-clause-read
returns-in_err-look-clause-read g c = only_read_more c.in_ok-head.ensures.read c.look.ensures.read

pub returns-in_err-look-clause-refused : goal.returns-in_err-look-clause-refused
returns-in_err-look-clause-refused g c why is =
    let p = err_from_is_err_and c.from_residual-in_err-look.result c.from_residual-in_err-look.ensures.1 in
    absurd (no_refusal c.in_err-look.field-0.0 why (sym p.2 ∙ error_is c.from_residual-in_err-look.result _ _ p.1 is))
