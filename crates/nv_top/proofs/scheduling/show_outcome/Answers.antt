use Rattle.std.proofs.Common.{map, refl, subst}
use Rattle.std.specs.Prelude.{IfSome}
use Rattle.std.proofs.lemmas.Result.{IfOk-weaker}
use Rattle.nv_top.specs.Scheduling.{ShowsOutcome}
use Rattle.nv_top.specs.LifeLines.{ShowsLife}
use Rattle.nv_top.proofs.SchedulingLemmas.{on_any}
use Rattle.nv_top.proofs.StoppingLemmas.{at_some, if_some}
use Rattle.nv_open.specs.Unopened.{HasHeader, StandsAsBefore, TellsOf}
use Rattle.nv_open.proofs.GivenBack.{still_stands}
use Rattle.nv_top.proofs.scheduling.show_outcome.Goals as goal

pub returns-in_ok-sorted-in-Ok-clause-shown : goal.returns-in_ok-sorted-in-Ok-clause-shown
returns-in_ok-sorted-in-Ok-clause-shown g c =
    let old = g.T.Bench.state c.args.bench.now in
    let last = g.T.Bench.state c.show_life.new.bench in
    let calls = c.in-Ok.calls in
    let place = c.args.place in
    let final = c.args.last in
    let begun = map (λ call. call.now) c.deref.result.now in
    IfOk-weaker c.show_life.result
    (λ lines. IfSome old.told (λ holding. ShowsLife place final holding c.in_ok-sorted-in-Ok.sorted begun last.told lines))
    (λ lines. IfSome old.told (λ holding. ShowsOutcome place final holding c.args.outcome last.told lines))
    (λ lines shown.
    if_some old.told (λ holding. ShowsOutcome place final holding c.args.outcome last.told lines) (λ holding told. record {
      calls = calls;
      is_ok = c.in-Ok.is;
      sorted = c.in_ok-sorted-in-Ok.sorted;
      sorted_out = c.in_ok-sorted-in-Ok.ensures;
      shown = subst (λ items. ShowsLife place final holding c.in_ok-sorted-in-Ok.sorted (map (λ call. call.now) items) last.told lines) c.deref.ensures.value
          (at_some old.told (λ holding. ShowsLife place final holding c.in_ok-sorted-in-Ok.sorted begun last.told lines) holding told shown);
    }))
    c.show_life.ensures.shown

pub returns-in_ok-sorted-in-Ok-clause-followed : goal.returns-in_ok-sorted-in-Ok-clause-followed
returns-in_ok-sorted-in-Ok-clause-followed g c = on_any c.show_life.result (c.in-Ok.calls, c.in-Ok.is)

pub returns-in_err-sorted-in-Ok-clause-standing : goal.returns-in_err-sorted-in-Ok-clause-standing
returns-in_err-sorted-in-Ok-clause-standing g c =
    let old = g.T.Bench.state c.args.bench.now in
    if_some old.told (λ was. HasHeader was.parts → TellsOf (StandsAsBefore was) old.told) (λ was told. still_stands old old was refl told c.requires.at_home.quiet)

pub returns-in-Err-NoMemory-clause-standing : goal.returns-in-Err-NoMemory-clause-standing
returns-in-Err-NoMemory-clause-standing g c =
    let old = g.T.Bench.state c.args.bench.now in
    if_some old.told (λ was. HasHeader was.parts → TellsOf (StandsAsBefore was) old.told) (λ was told. still_stands old old was refl told c.requires.at_home.quiet)
