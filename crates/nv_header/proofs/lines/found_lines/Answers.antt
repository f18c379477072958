use Rattle.std.proofs.Common.{◌≡◌, ◌-◌, length, take, drop, min, ap, ◌∙◌, arith}
use Rattle.std.specs.Prelude.{sum_by}
use Rattle.std.proofs.lemmas.List.{length-take, length-drop, take_all}
use Rattle.nv_plain.specs.Layouts.{layout_of}
use Rattle.nv_header.proofs.VersionLaws.{sizes}
use Rattle.nv_header.proofs.Counts.{found-first, sum_by-min-small}
use Rattle.nv_header.proofs.lines.found_lines.Goals as goal

pub overflow_add-result : goal.overflow_add-result
overflow_add-result g c =
    let others = take (length c.args.parts.now - 1) (drop 1 c.args.parts.now) in
    let these = take c.min-count.result others in
    let sum_is : c.lines_up_to.result ≡ sum_by (λ part. min c.entry_lines.result (g.L.Lines.room part).lines) these = c.lines_up_to.ensures in
    omega (
      arith,
      sum_is,
      (sizes c.args.version).header,
      c.header_lines.ensures,
      length-take c.min-count.result others,
      sum_by-min-small (λ part. (g.L.Lines.room part).lines) c.entry_lines.result 65 these (omega arith),
    )

pub returns-in-len1-up : goal.returns-in-len1-up
returns-in-len1-up g c =
    let others = take (length c.args.parts.now - 1) (drop 1 c.args.parts.now) in
    let sum_is : c.lines_up_to.result ≡ sum_by (λ part. min c.entry_lines.result (g.L.Lines.room part).lines) (take c.min-count.result others) = c.lines_up_to.ensures in
    found-first g.L.Lines.room (layout_of c.args.version) c.args.geometry.now.page c.args.geometry.now.entries c.args.parts.now others
    c.header-item.result c.min.result c.lines_up_to.result c.min-count.result (omega arith) c.header-item.is
    (take_all (length c.args.parts.now - 1) (drop 1 c.args.parts.now) (omega (arith, length-drop 1 c.args.parts.now)))
    (c.min.ensures ∙ ap (λ most. min most c.lines.result) c.header_lines.ensures ∙ ap (min (layout_of c.args.version).header_lines) c.lines.ensures) c.min-count.ensures
    (sum_is ∙ ap (λ most. sum_by (λ part. min most (g.L.Lines.room part).lines) (take c.min-count.result others)) c.entry_lines.ensures)
