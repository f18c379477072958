use Rattle.std.proofs.Common.{◌∙◌, ◌∷◌, [], List, Err, length, true, ap, subst, arith, rules}
use Rattle.std.specs.Vec.Iter.{into_iter_items, into_iter_len}
use Rattle.nv_plain.specs.Faults.{Rose}
use Rattle.nv_trace.specs.Traced.{Traced}
use Rattle.nv_runner.specs.Reports.{Report}
use Rattle.nv_top.specs.Followed.{HasFollowed, ShowsFollowed}
use Rattle.nv_top.specs.LifeLines.{AreKeptLives, IsTextOfLives}
use Rattle.nv_top.specs.LifeOver.{AreLivesOver, IsLifeStopped}
use Rattle.nv_top.specs.LifeRows.{trace_of, with_pick}
use Rattle.nv_top.specs.declared.ending.Stop.TheVariants.{NoMemory}
use Rattle.nv_top.proofs.LivesSoFar.{AreSoFar, none_yet, shown_over, so_far_all, so_far_more, stopped_over}
use Rattle.nv_top.proofs.ReportedLemmas.{by_error}
use Rattle.nv_top.proofs.SchedulingLemmas.{IfSome-weaker}
use Rattle.nv_top.proofs.scheduling.schedule.Goals as goal

pub loop-life-init : goal.loop-life-init
loop-life-init g c = record {
  so = none_yet c.args.options c.args.trace (g.T.Bench.state c.args.bench.now) (into_iter_items c.into_iter-life-iterator.result) c.take_lives-lives.new.self c.new-shown.result c.requires.ready c.requires.trace c.requires.few
      (c.into_iter-life-iterator.ensures.into_iter_gives.0 ∙ c.take_lives-lives.ensures.lives) c.take_lives-lives.ensures.taken c.new-shown.ensures.none c.new-shown.ensures.each;
  count = search rules;
}

pub loop-life-preserved : goal.loop-life-preserved
loop-life-preserved g c =
    let at = c.loop-life in
    let old = g.T.Bench.state c.args.bench.now in
    let mid = g.T.Bench.state at.bench in
    let so = subst (λ later. AreSoFar c.args.options c.args.trace old later mid at.trace at.shown) c.in-Some.ensures.steps.0 at.invariant.so in
    record {
      so = so_far_more c.args.options c.args.trace old c.in-Some.life (into_iter_items c.next.new.self) mid (g.T.Bench.state c.end_life.new.bench) at.trace c.end_life.new.trace at.shown c.end_life.new.shown so c.in_ok-end_life.ensures.ended;
      count = let was = at.invariant.count in let gone = c.in-Some.ensures.steps.1 in let short = ap length c.in-Some.ensures.steps.0 in omega arith;
    }

pub returns-in_err-end_life : goal.returns-in_err-end_life
returns-in_err-end_life g c =
    let at = c.loop-life in
    let old = g.T.Bench.state c.args.bench.now in
    let mid = g.T.Bench.state at.bench in
    let new = g.T.Bench.state c.end_life.new.bench in
    let options = c.args.options in
    let trace = c.args.trace in
    let life = c.in-Some.life in
    let stop = c.in_err-end_life.field-0.0 in
    let so = subst (λ later. AreSoFar options trace old later mid at.trace at.shown) c.in-Some.ensures.steps.0 at.invariant.so in
    let over = subst (λ (one : Traced). IsLifeStopped (with_pick life.pick options) (trace_of one at.trace.calls life.tokens) mid new stop) so.now_is c.in_err-end_life.ensures.stopped in
    by_error c.from_residual.result stop (AreLivesOver options trace old new) c.from_residual.ensures.1
    (stopped_over options trace old (life ∷ into_iter_items c.next.new.self) mid new at.trace at.shown so c.a_refused_region_shows_nothing.ensures.bad c.requires.trace stop over)

pub returns-in_err-last : goal.returns-in_err-last
returns-in_err-last g c =
    let at = c.loop-life in
    let old = g.T.Bench.state c.args.bench.now in
    let mid = g.T.Bench.state at.bench in
    let new = g.T.Bench.state c.follow_life.new.bench in
    let options = c.args.options in
    let trace = c.args.trace in
    let stop = c.in_err-last.field-0.0 in
    let made = c.in_err-last.ensures in
    let so = so_far_all options trace old (into_iter_items at.life-iterator) (into_iter_len at.life-iterator) mid at.trace at.shown at.invariant.count c.in-None.ensures.steps.0 at.invariant.so in
    let followed : IsLifeStopped options at.trace mid new stop = record {
      back = made.back;
      cuts = made.cuts;
      off = made.power;
      cause = made.cause;
      settles = made.settles;
      never_falls = made.never_falls;
      turns = λ is. made.turns (ap Err is);
      used = λ is. made.used (ap Err is);
      life = made.life;
      refused = λ why is. made.refused why (ap Err is);
      unarmed = λ why is. made.unarmed why (ap Err is);
    } in
    by_error c.from_residual-in_err-last.result stop (AreLivesOver options trace old new) c.from_residual-in_err-last.ensures.1
    (stopped_over options trace old [] mid new at.trace at.shown so c.a_refused_region_shows_nothing.ensures.bad c.requires.trace stop (subst (λ (one : Traced). IsLifeStopped options one mid new stop) so.now_is followed))

pub returns-in_err-text_with : goal.returns-in_err-text_with
returns-in_err-text_with g c =
    let at = c.loop-life in
    let old = g.T.Bench.state c.args.bench.now in
    let mid = g.T.Bench.state at.bench in
    let new = g.T.Bench.state c.follow_life.new.bench in
    let options = c.args.options in
    let trace = c.args.trace in
    let made = c.in_ok-last.ensures in
    let so = so_far_all options trace old (into_iter_items at.life-iterator) (into_iter_len at.life-iterator) mid at.trace at.shown at.invariant.count c.in-None.ensures.steps.0 at.invariant.so in
    let followed : IsLifeStopped options at.trace mid new NoMemory = record {
      back = made.back;
      cuts = made.cuts;
      off = made.power;
      cause = let counts = made.cause in omega (arith, counts);
      settles = made.settles;
      never_falls = made.never_falls;
      turns = λ is. cc;
      used = λ is. cc;
      life = made.life;
      refused = λ why is. cc;
      unarmed = λ why is. cc;
    } in
    by_error c.from_residual-in_err-text_with.result NoMemory (AreLivesOver options trace old new) c.from_residual-in_err-text_with.ensures.1
    (stopped_over options trace old [] mid new at.trace at.shown so c.a_refused_region_shows_nothing.ensures.bad c.requires.trace NoMemory (subst (λ (one : Traced). IsLifeStopped options one mid new NoMemory) so.now_is followed))

pub returns : goal.returns
returns g c =
    let at = c.loop-life in
    let old = g.T.Bench.state c.args.bench.now in
    let mid = g.T.Bench.state at.bench in
    let new = g.T.Bench.state c.follow_life.new.bench in
    let options = c.args.options in
    let trace = c.args.trace in
    let text = c.in_ok-text_with.field-0 in
    let made = c.in_ok-last.ensures in
    let so = so_far_all options trace old (into_iter_items at.life-iterator) (into_iter_len at.life-iterator) mid at.trace at.shown at.invariant.count c.in-None.ensures.steps.0 at.invariant.so in
    shown_over options trace old mid new at.trace at.shown so text c.requires.trace made.back made.all_cuts made.off made.cause made.settles made.never_falls made.uncut made.life
    (IfSome-weaker mid.told (λ here. ShowsFollowed (Rose mid.faults new.faults) options mid.picked here new at.trace at.shown.placed true c.in_ok-last.last)
    (λ here. (last : HasFollowed (Rose mid.faults new.faults) options mid.picked here new at.trace) × ((ended : List Report) → AreKeptLives at.shown ended → IsTextOfLives ended last.scheduled.report text.items))
    (λ here followed. (followed.0, λ ended are. c.in_ok-text_with.ensures ended followed.0.scheduled.report are followed.1)) made.followed)
