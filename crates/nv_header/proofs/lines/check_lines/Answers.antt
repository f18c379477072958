use Rattle.std.proofs.Common.{◌+◌, ◌*◌, ap, sym, ◌∙◌, refl, arith}
use Rattle.nv_plain.specs.Layouts.{layout_of}
use Rattle.nv_header.proofs.VersionLaws.{sizes}
use Rattle.nv_header.proofs.Counts.{has_lines, found-has_lines}
use Rattle.nv_header.proofs.lines.check_lines.Goals as goal

pub returns-then-found-wanted-clause-exact : goal.returns-then-found-wanted-clause-exact
returns-then-found-wanted-clause-exact g c =
    let entries = c.args.head.now.geometry.entries in
    let header = ap (λ n. n + entries * c.entry_lines.result) c.header_lines.ensures in
    let wanted = header ∙ ap (λ n. (layout_of c.args.head.now.version).header_lines + entries * n) c.entry_lines.ensures in
    (λ ok. has_lines _ _ _ _ (omega (arith, (sizes c.args.head.now.version).first, (sizes c.args.head.now.version).names)) (sym c.found_lines-found.ensures ∙ c.if-found-wanted.true ∙ wanted), λ has. refl)

pub returns-else-found-wanted-clause-exact : goal.returns-else-found-wanted-clause-exact
returns-else-found-wanted-clause-exact g c =
    let entries = c.args.head.now.geometry.entries in
    let header = ap (λ n. n + entries * c.entry_lines.result) c.header_lines.ensures in
    let wanted = header ∙ ap (λ n. (layout_of c.args.head.now.version).header_lines + entries * n) c.entry_lines.ensures in
    (λ no. cc, λ has. absurd (c.if-found-wanted.false (c.found_lines-found.ensures ∙ found-has_lines _ _ _ _ has ∙ sym wanted)))
