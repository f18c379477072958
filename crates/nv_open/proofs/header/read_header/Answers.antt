use Rattle.std.proofs.Common.{◌≡◌, ◌≤◌, true, false, length, map, sym, ◌∙◌, subst, inr}
use Rattle.std.proofs.lemmas.Result.{err_from_is_err_and}
use Rattle.nv_plain.specs.Images.{version_in}
use Rattle.nv_pmem.specs.Rows.{RowTells}
use Rattle.nv_pmem.specs.RowStates.{row_tells_from, row_tells_at}
use Rattle.nv_open.specs.Held.{header_names}
use Rattle.nv_open.specs.Refusals.{IsRefusedFor, IsBadHeader, head_image}
use Rattle.nv_open.specs.declared.error.Refusal.TheVariants.{Truncated}
use Rattle.nv_open.proofs.HeadLaws.{error_is, lack_told, names_told, refused_by_head, refused_is, some_part, version_told}
use Rattle.nv_open.proofs.LineCounts.{kept_counts}
use Rattle.nv_open.proofs.header.read_header.Goals as goal

pub returns-in_err-head-clause-refused : goal.returns-in_err-head-clause-refused
returns-in_err-head-clause-refused g c why is =
    let p = err_from_is_err_and c.from_residual.result c.from_residual.ensures.1 in
    refused_by_head g.L.Lines.history g.L.Lines.room g.met.L.Lines.told_lines c.args.parts.now c.in_err-head.field-0.0 why (sym p.2 ∙ error_is c.from_residual.result _ _ p.1 is)
    (λ short. error_is c.read_head.result _ _ c.in_err-head.was (c.read_head.ensures.truncated short)) c.in_err-head.ensures.refused

pub returns-in_err-check_lines-clause-refused : goal.returns-in_err-check_lines-clause-refused
returns-in_err-check_lines-clause-refused g c why is =
    let p = err_from_is_err_and c.from_residual-in_err-check_lines.result c.from_residual-in_err-check_lines.ensures.1 in
    let lack = c.in_err-check_lines.field-0.0 in
    let head = c.in_ok-head.head in
    let old = c.args.parts.now in
    let new = c.read_head.new.parts in
    let same : Truncated lack.found lack.wanted ≡ why = refused_is (Truncated lack.found lack.wanted) why (sym p.2 ∙ error_is c.from_residual-in_err-check_lines.result _ _ p.1 is) in
    let some : 1 ≤ length old = some_part g.L.Lines.room old (λ short. let never = sym c.in_ok-head.was ∙ c.read_head.ensures.truncated short in cc) in
    subst (λ one. RowTells (map g.L.Lines.history old) (λ told. IsRefusedFor told one × IsBadHeader one)) same
    (row_tells_from (map g.L.Lines.history old) (λ told. IsRefusedFor told (Truncated lack.found lack.wanted) × IsBadHeader (Truncated lack.found lack.wanted)) (λ told are. (
      inr (row_tells_at (map g.L.Lines.history old) _ told are
          (lack_told g.L.Lines.history g.L.Lines.room g.met.L.Lines.told_lines old (map g.L.Lines.room new) head lack.found lack.wanted some (kept_counts g.L.Lines.room old new c.in_ok-head.ensures.read.rooms)
          c.in_ok-head.ensures.head (λ has. let never : false ≡ true = c.in_err-check_lines.ensures.exact.1 has in cc) c.in_err-check_lines.ensures.found c.in_err-check_lines.ensures.wanted)),
      tt,
    )))

pub returns-clause-version : goal.returns-clause-version
returns-clause-version g c =
    let old = c.args.parts.now in
    let head = c.in_ok-head.head in
    let some : 1 ≤ length old = some_part g.L.Lines.room old (λ short. let never = sym c.in_ok-head.was ∙ c.read_head.ensures.truncated short in cc) in
    row_tells_from (map g.L.Lines.history old) (λ told. head.version ≡ version_in (head_image told)) (λ told are.
    version_told g.L.Lines.history g.L.Lines.room g.met.L.Lines.told_lines old told head some are c.in_ok-head.ensures.head)

pub returns-clause-names : goal.returns-clause-names
returns-clause-names g c =
    let old = c.args.parts.now in
    let head = c.in_ok-head.head in
    let some : 1 ≤ length old = some_part g.L.Lines.room old (λ short. let never = sym c.in_ok-head.was ∙ c.read_head.ensures.truncated short in cc) in
    row_tells_from (map g.L.Lines.history old) (λ told. header_names told ≡ head.names) (λ told are.
    names_told g.L.Lines.history g.L.Lines.room g.met.L.Lines.told_lines old told head some are c.in_ok-head.ensures.head)
