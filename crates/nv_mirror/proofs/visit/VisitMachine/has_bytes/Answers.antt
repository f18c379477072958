-- A page has bytes of the reply where it begins before that ends.
use Rattle.std.proofs.Common.{◌+◌, ◌-◌, ◌<◌, arith}
use Rattle.std.proofs.lemmas.Bool.{lt-ltb, ltb-true, ltb_from_iff}
use Rattle.nv_plain.specs.Pieces.{pages_touched}
use Rattle.nv_core.specs.state.Passes.{covered}
use Rattle.nv_mirror.specs.Visits.{visit_call_of}
use Rattle.nv_mirror.proofs.PartSpans.{low_touched, touched_low}
use Rattle.nv_mirror.proofs.visit.VisitMachine.has_bytes.Goals as goal

pub returns-then-covered-gt0 : goal.returns-then-covered-gt0
returns-then-covered-gt0 c =
    let m = c.args.self in
    let page = c.args.layout.page in
    let covers = covered (visit_call_of m) m.length in
    let own = c.requires.own in
    let first = c.requires.fits.first in
    let begin = c.begin_of.ensures in
    let counts = c.covered-covered.ensures in
    let more = c.if-covered-gt0.true in
    ltb_from_iff (
      (λ so.
          let before = ltb-true c.begin_of.result (m.at + c.covered-covered.result) so in
          let less : c.args.page - m.first < pages_touched m.at covers page = low_touched m.at covers page (omega arith) (c.args.page - m.first) (omega (arith, counts, more)) (omega (arith, before, begin, counts)) in
          omega (arith, less, first, own)),
      (λ below.
          let less : c.args.page - m.first < pages_touched m.at covers page = omega (arith, below, first, own) in
          let low = touched_low m.at covers page (omega arith) (c.args.page - m.first) less in
          lt-ltb c.begin_of.result (m.at + c.covered-covered.result) (omega (arith, low, begin, counts))),
    )
