-- The lives so far were ended by their crashes.
use Rattle.std.proofs.Common.{◌≡◌, length}
use Rattle.std.specs.Vec.Iter.{into_iter_items, into_iter_len}
use Rattle.nv_top.proofs.LivesSoFar.{AreSoFar}
use Rattle.nv_top.proofs.scheduling.schedule.Given as goal

abbrev pub invariant-loop-life : goal.invariant-loop-life
invariant-loop-life g l = record {
  so : AreSoFar l.options l.fn.trace (g.T.Bench.state l.fn.bench) (into_iter_items l.life-iterator) (g.T.Bench.state l.bench) l.trace l.shown;
  count : into_iter_len l.life-iterator ≡ length (into_iter_items l.life-iterator);
}
