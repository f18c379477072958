-- So many calls of each thread are among those that were looked at.
use Rattle.std.proofs.Common.{◌++◌, map, take}
use Rattle.nv_runner.specs.declared.shown.Shown.{Shown}
use Rattle.nv_runner.specs.declared.sorted.Placed.{Placed}
use Rattle.nv_top.specs.LifeLines.{AreCounts}
use Rattle.nv_top.specs.declared.outcome.Fated.{Fated}
use Rattle.nv_top.proofs.life.count_listed.Given as goal

abbrev pub invariant-loop-p : goal.invariant-loop-p
invariant-loop-p l = AreCounts (map (λ (p : Placed). p.call.now) (take l.p-index l.placed)) l.counts

abbrev pub invariant-loop-r : goal.invariant-loop-r
invariant-loop-r l = AreCounts (map (λ (p : Placed). p.call.now) l.placed ++ map (λ (r : Shown). r.call.now) (take l.r-index l.refused)) l.counts

abbrev pub invariant-loop-o : goal.invariant-loop-o
invariant-loop-o l = AreCounts (map (λ (p : Placed). p.call.now) l.placed ++ map (λ (r : Shown). r.call.now) l.refused ++ map (λ (o : Fated). o.call.now) (take l.o-index l.left)) l.counts
