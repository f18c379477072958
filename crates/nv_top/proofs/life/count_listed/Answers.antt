use Rattle.std.proofs.Common.{◌++◌, map, take, subst}
use Rattle.nv_trace.specs.declared.trace_call.TracedCall.{TracedCall}
use Rattle.nv_runner.specs.declared.shown.Shown.{Shown}
use Rattle.nv_runner.specs.declared.sorted.Placed.{Placed}
use Rattle.nv_top.specs.LifeLines.{AreCounts}
use Rattle.nv_top.specs.declared.outcome.Fated.{Fated}
use Rattle.nv_top.proofs.CountLemmas.{one_looked}
use Rattle.nv_top.proofs.life.count_listed.Goals as goal

abbrev placed_call : Placed → TracedCall
placed_call p = p.call.now

abbrev shown_call : Shown → TracedCall
shown_call r = r.call.now

abbrev fated_call : Fated → TracedCall
fated_call o = o.call.now

pub loop-r-preserved : goal.loop-r-preserved
loop-r-preserved c =
    let front = map placed_call c.args.placed.now in
    subst (λ calls. AreCounts calls c.count-in-loop-r.new.counts) (one_looked shown_call front c.args.refused.now c.loop-r.r-index c.r-item.result c.loop-r-test.true c.r-item.is)
    (c.count-in-loop-r.ensures (front ++ map shown_call (take c.loop-r.r-index c.args.refused.now)) c.loop-r.invariant)

pub loop-o-preserved : goal.loop-o-preserved
loop-o-preserved c =
    let front = map placed_call c.args.placed.now ++ map shown_call c.args.refused.now in
    subst (λ calls. AreCounts calls c.count-in-loop-o.new.counts) (one_looked fated_call front c.args.left.now c.loop-o.o-index c.o-item.result c.loop-o-test.true c.o-item.is)
    (c.count-in-loop-o.ensures (front ++ map fated_call (take c.loop-o.o-index c.args.left.now)) c.loop-o.invariant)
