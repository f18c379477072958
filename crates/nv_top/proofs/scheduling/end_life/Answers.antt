use Rattle.std.proofs.Common.{◌≡◌, ◌∙◌, [], List, Err, false, drop, length, sym, ap, subst, arith}
use Rattle.std.specs.Prelude.{IfSome, slice_index_or}
use Rattle.std.specs.List.Sorted.{IsStrictlyIncreasing}
use Rattle.nv_plain.specs.Faults.{Rose}
use Rattle.nv_pmem.specs.declared.picker.Pick.{Pick}
use Rattle.nv_trace.specs.Lives.{TracedLife}
use Rattle.nv_trace.specs.Traced.{Traced, lines_in}
use Rattle.nv_trace.specs.declared.token.Token.{Token}
use Rattle.nv_trace.specs.declared.trace_call.TracedCall.{TracedCall}
use Rattle.nv_runner.specs.Shifts.{calls_of_thread}
use Rattle.nv_schedule.specs.Cuts.{cuts_of}
use Rattle.nv_top.specs.Followed.{ShowsFollowed}
use Rattle.nv_top.specs.LifeOver.{IsLifeStopped}
use Rattle.nv_top.specs.LifeRows.{trace_of, with_pick}
use Rattle.nv_top.specs.Ready.{IsRunnable}
use Rattle.nv_top.specs.Scheduling.{IsArmedAt}
use Rattle.nv_top.specs.Stopping.{IsOff}
use Rattle.nv_top.proofs.LivesSoFar.{err_so, life_ended}
use Rattle.nv_top.proofs.scheduling.end_life.Goals as goal

pub returns-in_err-lines-clause-stopped : goal.returns-in_err-lines-clause-stopped
returns-in_err-lines-clause-stopped g c =
    let old = g.T.Bench.state c.args.bench.now in
    let new = g.T.Bench.state c.follow_life.new.bench in
    let trace = c.args.trace.now in
    let life = c.args.life in
    let options = c.args.options in
    let stop = c.in_err-lines.field-0.0 in
    let made = c.in_err-lines.ensures in
    let own = trace_of trace trace.calls life.tokens in
    let same : c.swap_tokens.new.self ≡ own = c.swap_tokens.ensures.trace ∙ ap (λ (lives : List TracedLife). record trace { tokens = life.tokens; lives = lives }) c.requires.one in
    let At : Pick → Traced → Type 0 = λ pick one. IsLifeStopped (with_pick pick options) one old new stop in
    let followed : At c.pick.result c.swap_tokens.new.self = record {
      back = made.back;
      cuts = made.cuts;
      off = made.power;
      cause = made.cause;
      settles = made.settles;
      never_falls = made.never_falls;
      turns = λ is. made.turns (ap Err is);
      used = λ is. made.used (ap Err is);
      life = made.life;
      refused = λ why is. made.refused why (ap Err is);
      unarmed = λ why is. made.unarmed why (ap Err is);
    } in
    err_so c.from_residual.result stop (IsLifeStopped (with_pick life.pick options) own old new) c.from_residual.ensures.1
    (subst (λ pick. At pick own) c.pick.ensures (subst (At c.pick.result) same followed))

pub returns-clause-ended : goal.returns-clause-ended
returns-clause-ended g c =
    let old = g.T.Bench.state c.args.bench.now in
    let new = g.T.Bench.state c.follow_life.new.bench in
    let trace = c.args.trace.now in
    let life = c.args.life in
    let options = c.args.options in
    let lines = c.in_ok-lines.lines in
    let made = c.in_ok-lines.ensures in
    let own = trace_of trace trace.calls life.tokens in
    let place = c.args.shown.now.placed in
    let same : c.swap_tokens.new.self ≡ own = c.swap_tokens.ensures.trace ∙ ap (λ (lives : List TracedLife). record trace { tokens = life.tokens; lives = lives }) c.requires.one in
    let again : c.swap_tokens-2.new.self ≡ trace =
    c.swap_tokens-2.ensures.trace ∙ ap (λ (life : TracedLife). record c.swap_tokens.new.self { tokens = life.tokens }) c.swap_tokens.ensures.life
    ∙ ap (λ (one : Traced). record one { tokens = trace.tokens }) c.swap_tokens.ensures.trace in
    let dropped = c.drop_begun.ensures in
    let left = c.drop_begun.new.self in
    let At : Pick → Traced → Type 0 = λ pick one. IfSome old.told (λ was. ShowsFollowed (Rose old.faults new.faults) (with_pick pick options) old.picked was new one place false lines) in
    let runnable : IsRunnable left = record {
      well_formed = dropped.well_formed;
      lines = dropped.lines (subst (λ (one : Traced). IsStrictlyIncreasing (lines_in one)) (sym again) c.requires.trace.lines);
      few = let few = c.requires.trace.few in omega (arith, dropped.fewer, few, ap (λ (one : Traced). length one.calls) again);
    } in
    life_ended options trace life left old new c.args.shown.now c.end_life.new.self lines c.requires.trace c.requires.at_home.quiet made.back made.silent (subst (λ pick. IsOff pick old new) c.pick.ensures made.off)
    (subst (λ (tokens : List Token). IsArmedAt tokens old new) (ap (λ (one : Traced). one.tokens) c.swap_tokens.ensures.trace) made.all_cuts) made.cause made.settles made.never_falls
    (subst (λ (tokens : List Token). cuts_of tokens ≡ [] → new.faults ≡ old.faults) (ap (λ (one : Traced). one.tokens) c.swap_tokens.ensures.trace) made.uncut)
    (dropped.behind ∙ ap (λ (calls : List TracedCall). record c.swap_tokens-2.new.self { calls = calls }) (sym (ap (λ (one : Traced). one.calls) dropped.behind)) ∙ ap (λ (one : Traced). record one { calls = left.calls }) again)
    runnable
    (λ thread. dropped.each thread ∙ ap (λ (one : Traced). drop (slice_index_or lines.listed thread 0) (calls_of_thread thread one.calls)) again)
    (g.met.T.Bench.named c.follow_life.new.bench) c.in_ok-end_life.ensures.each c.in_ok-end_life.ensures.more
    (subst (λ pick. At pick own) c.pick.ensures (subst (At c.pick.result) same made.followed))
