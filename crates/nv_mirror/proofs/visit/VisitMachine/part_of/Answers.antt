-- The page begins before the reply ends.
use Rattle.std.proofs.Common.{◌≡◌, ◌+◌, ◌-◌, ◌%◌, ◌<◌, ◌≤◌, min, sym, ap, subst, ◌∙◌, arith}
use Rattle.nv_plain.specs.Pieces.{pages_touched, piece_of}
use Rattle.nv_core.specs.state.Passes.{covered}
use Rattle.nv_core.proofs.state.PageLaws.{read_within}
use Rattle.nv_table.specs.state.Keys.{sizes_of}
use Rattle.nv_mirror.specs.Visits.{visit_call_of}
use Rattle.nv_mirror.proofs.PartSpans.{part_inside, part_offset, part_size, touched_low}
use Rattle.nv_mirror.proofs.visit.VisitMachine.part_of.Goals as goal

pub begin_of-begin-requires-clause-within : goal.begin_of-begin-requires-clause-within
begin_of-begin-requires-clause-within c =
    let m = c.args.self in
    let inside = read_within (sizes_of c.args.layout) (visit_call_of m) m.length in
    let within = c.requires.within in
    let first = c.requires.fits.first in
    let pages = c.requires.fits.pages in
    omega (arith, inside, within, first, pages)

pub overflow_sub-self : goal.overflow_sub-self
overflow_sub-self c =
    let m = c.args.self in
    let within = c.requires.within in
    let first = c.requires.fits.first in
    let own = c.requires.own in
    let less : c.args.page - m.first < pages_touched m.at (covered (visit_call_of m) m.length) c.args.layout.page = omega (arith, within, first, own) in
    let low = touched_low m.at (covered (visit_call_of m) m.length) c.args.layout.page (omega arith) (c.args.page - m.first) less in
    let begin = c.begin_of-begin.ensures in
    let covers = c.covered.ensures in
    omega (arith, low, begin, covers)

pub returns-clause-at : goal.returns-clause-at
returns-clause-at c =
    let m = c.args.self in
    let page = c.args.layout.page in
    let covers = covered (visit_call_of m) m.length in
    c.saturating_sub-at.ensures ∙ ap (λ n. m.at - n) c.begin_of-begin.ensures ∙ sym (part_offset m.at covers page (omega arith) (c.args.page - m.first))
    ∙ ap (λ n. (piece_of m.at covers page (c.args.page - n)).at % page) c.requires.fits.first

pub returns-clause-inside : goal.returns-clause-inside
returns-clause-inside c =
    let m = c.args.self in
    let page = c.args.layout.page in
    let covers = covered (visit_call_of m) m.length in
    let within = c.requires.within in
    let first = c.requires.fits.first in
    let own = c.requires.own in
    let less : c.args.page - m.first < pages_touched m.at covers page = omega (arith, within, first, own) in
    let size = part_size m.at covers page (omega arith) (c.args.page - m.first) less in
    let begin = c.begin_of-begin.ensures in
    let cuts : c.min-end.result - c.saturating_sub-at.result ≡ (piece_of m.at covers page (c.args.page - m.first)).size =
    ap (λ n. n - c.saturating_sub-at.result) c.min-end.ensures
    ∙ ap (λ n. min (m.at + n - c.begin_of-begin.result) page - c.saturating_sub-at.result) c.covered.ensures
    ∙ ap (λ n. min (m.at + covers - c.begin_of-begin.result) page - n) c.saturating_sub-at.ensures
    ∙ ap (λ n. min (m.at + covers - n) page - (m.at - n)) begin ∙ sym size in
    subst (λ n. (piece_of m.at covers page (c.args.page - n)).from + (c.min-end.result - c.saturating_sub-at.result) ≤ covers) first
    (subst (λ n. (piece_of m.at covers page (c.args.page - m.first)).from + n ≤ covers) (sym cuts) (part_inside m.at covers page (omega arith) (c.args.page - m.first) less))
