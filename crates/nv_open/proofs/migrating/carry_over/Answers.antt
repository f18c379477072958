use Rattle.std.proofs.Common.{◌≡◌, [], map, sym, ◌∙◌}
use Rattle.nv_plain.specs.declared.limits.Version.TheVariants.{One}
use Rattle.nv_header.specs.Migrations.{HasEmptyLogInEither}
use Rattle.nv_open.specs.Unopened.{HasFirstNames}
use Rattle.nv_open.proofs.Partly.{in_either, or_one, row_end, row_more}
use Rattle.nv_open.proofs.LineCounts.{same_lines}
use Rattle.nv_open.proofs.Tells.{did_tells}
use Rattle.nv_open.proofs.migrating.carry_over.Goals as goal

pub returns-in-Ok-clause-lines : goal.returns-in-Ok-clause-lines
returns-in-Ok-clause-lines g c = same_lines g.L.Lines.history g.L.Lines.room g.met.L.Lines.told_lines c.args.region.parts.items c.in-Ok.region.parts.items c.in-Ok.ensures.changed.lines

pub returns-in-Ok-clause-tell : goal.returns-in-Ok-clause-tell
returns-in-Ok-clause-tell g c tell = did_tells _ (map g.L.Lines.history c.args.region.parts.items) (map g.L.Lines.history c.in-Ok.region.parts.items) c.in-Ok.ensures.done tell

pub returns-in-Err-clause-lines : goal.returns-in-Err-clause-lines
returns-in-Err-clause-lines g c = same_lines g.L.Lines.history g.L.Lines.room g.met.L.Lines.told_lines c.args.region.parts.items c.in-Err.parts.items c.in-Err.ensures.changed.lines

pub returns-in-Err-clause-left : goal.returns-in-Err-clause-left
returns-in-Err-clause-left g c tell =
    let region = c.args.region in
    let old = map g.L.Lines.history region.parts.items in
    let new = map g.L.Lines.history c.in-Err.parts.items in
    let page = region.geometry.page in
    let entries = region.geometry.entries in
    let known : One ≡ region.version = or_one region.version (λ is. let never = sym (c.migrate.ensures.at_once is) ∙ c.in-Err.is in cc) in
    row_more (HasEmptyLogInEither page entries region.names region.next) (HasFirstNames region.version page entries region.names [] region.next) new
    (λ image log. in_either region.version page entries region.names region.next image known log)
    (row_end (HasEmptyLogInEither page entries region.names region.next) old new c.rows_have_states.ensures.some tell c.in-Err.ensures.changed.moments)
