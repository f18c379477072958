use Rattle.std.proofs.Common.{◌≡◌, ◌≤◌, Err, length, map, refl, ap, ◌∙◌, subst, arith}
use Rattle.std.proofs.lemmas.Result.{err_from_is_err_and}
use Rattle.nv_pmem.specs.Rows.{RowTells}
use Rattle.nv_pmem.specs.RowStates.{row_tells_from, row_tells_at}
use Rattle.nv_open.specs.Layers.{HasMountHeader}
use Rattle.nv_open.specs.Refusals.{IsRefusedFor, IsBadHeader}
use Rattle.nv_open.specs.declared.error.OpenError.TheVariants as error
use Rattle.nv_open.specs.declared.error.Refusal.TheVariants.{Truncated}
use Rattle.nv_pmem.proofs.ReadLaws.{only_read_none}
use Rattle.nv_open.proofs.HeadLaws.{error_is, never_short, refused_is, some_part}
use Rattle.nv_open.proofs.Versions.{least_lines}
use Rattle.nv_open.proofs.header.check_mount_header.Goals as goal

pub returns-then-found-wanted-clause-read : goal.returns-then-found-wanted-clause-read
returns-then-found-wanted-clause-read g c = only_read_none g.L.Lines.history g.L.Lines.room g.L.Lines.device c.args.parts.now

pub returns-in_err-read_header-clause-refused : goal.returns-in_err-read_header-clause-refused
returns-in_err-read_header-clause-refused g c why is =
    let p = err_from_is_err_and c.from_residual.result c.from_residual.ensures.1 in
    let row = map g.L.Lines.history c.args.parts.now in
    let same : c.in_err-read_header.field-0.0 ≡ error.Refused why = cc (p.1, p.2, is) in
    let refused = c.read_header.ensures.refused why (c.in_err-read_header.was ∙ ap Err same) in
    row_tells_from row (λ told. IsBadHeader why × (HasMountHeader told → IsRefusedFor told why)) (λ told are.
    let both = row_tells_at row (λ told. IsRefusedFor told why × IsBadHeader why) told are refused in
    (both.1, λ given. both.0))

pub returns-clause-refused : goal.returns-clause-refused
returns-clause-refused g c why is =
    let history = g.L.Lines.history in
    let room = g.L.Lines.room in
    let old = c.args.parts.now in
    let new = c.read_header.new.parts in
    let one = c.in_ok-read_header.field-0 in
    let long = c.in_ok-read_header.ensures.lines.header in
    let some : 1 ≤ length old = omega (arith, some_part room new (λ short. omega (arith, long, least_lines one.version)), c.read_header.auto.parts) in
    let Of : _ → Type 0 = λ why. RowTells (map history old) (λ told. IsBadHeader why × (HasMountHeader told → IsRefusedFor told why)) in
    subst Of (refused_is (Truncated c.header_lines-found.result c.header_lines-wanted.result) why (error_is (Err (error.Refused (Truncated c.header_lines-found.result c.header_lines-wanted.result))) _ _ refl is))
    (row_tells_from (map history old) (λ told. IsBadHeader (Truncated c.header_lines-found.result c.header_lines-wanted.result) × (HasMountHeader told → IsRefusedFor told (Truncated c.header_lines-found.result c.header_lines-wanted.result))) (λ told are. (
      tt,
      λ given. absurd (never_short history room g.met.L.Lines.told_lines old told one some are c.in_ok-read_header.ensures.head given
          (omega (arith, c.if-found-wanted.false, c.header_lines-found.ensures, c.header_lines-wanted.ensures))),
    )))
