-- A page that is missed, and for which no buffer is searched, is loaded.
use Rattle.std.proofs.Common.{sym, ap, ◌∙◌, arith}
use Rattle.nv_core.proofs.state.PageLaws.{read_within}
use Rattle.nv_table.specs.state.Keys.{sizes_of}
use Rattle.nv_table.specs.state.Opened.{Opened}
use Rattle.nv_mirror.specs.Visits.{visit_call_of}
use Rattle.nv_mirror.proofs.VisitLaws.{before_end, visit_loads}
use Rattle.nv_mirror.proofs.visit.VisitMachine.next_at.Goals as goal

pub has_bytes-requires-clause-within : goal.has_bytes-requires-clause-within
has_bytes-requires-clause-within g c =
    let m = c.args.self in
    let inside = read_within c.args.pass.now.view.opened.sizes (visit_call_of m) m.length in
    let till = c.requires.way.3.copied.till in
    let first = c.requires.way.2.first in
    let pages = c.requires.way.2.pages in
    omega (arith, inside, till, first, pages)

pub returns-else-lacks-clause-knows : goal.returns-else-lacks-clause-knows
returns-else-lacks-clause-knows g c =
    let m = c.args.self in
    let pass = c.args.pass.now in
    let way = c.requires.way.3 in
    let same = c.layout-layout.ensures ∙ sym (ap (λ (o : Opened). o.sizes) c.requires.board.same_mount) in
    let more = before_end m (sizes_of c.layout-layout.result) pass.view.opened.sizes m.page c.has_bytes.result same c.has_bytes.ensures c.if-not-has_bytes.false in
    visit_loads m c.requires.way.0 c.requires.way.1 pass way more (c.requires.missed (λ e. omega (arith, e, more))) (c.lacks.ensures.enough c.if-lacks.false)
