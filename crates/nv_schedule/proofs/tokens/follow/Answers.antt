-- One token after another.
use Rattle.std.proofs.Common.{◌≡◌, ◌∷◌, ◌++◌, Bool, false, List, [], drop, length, refl, sym, ap, subst, ◌∙◌, arith, length-append}
use Rattle.std.specs.Prelude.{All}
use Rattle.nv_bench.specs.Benches.{BenchState}
use Rattle.nv_schedule.specs.Cuts.{cut_behind}
use Rattle.nv_schedule.specs.Following.{ScheduleTells}
use Rattle.nv_trace.specs.Shape.{IsTokenWithin}
use Rattle.nv_trace.specs.declared.token.Token.{Token}
use Rattle.nv_schedule.proofs.CutLaws.{all_at, armed_only, cut_behind_both, cut_tells, few_arms, on_err}
use Rattle.nv_schedule.proofs.FollowLaws.{behind_none, done_on, moved_on, on_ok, schedule_on}
use Rattle.nv_schedule.proofs.SinceLaws.{all_both, all_self}
use Rattle.nv_schedule.proofs.tokens.follow.Goals as goal

pub follow_one-after-requires-clause-within : goal.follow_one-after-requires-clause-within
follow_one-after-requires-clause-within g c κs within =
    let so_far = c.loop-rest.invariant in
    all_at IsTokenWithin so_far.before c.first_of-token.result (drop 1 c.loop-rest.rest.now)
    (subst (All IsTokenWithin) (so_far.tokens ∙ ap (λ l. so_far.before ++ l) c.first_of-token.ensures) c.requires.within)

pub follow_one-after-requires-clause-arms : goal.follow_one-after-requires-clause-arms
follow_one-after-requires-clause-arms g c κs within =
    let so_far = c.loop-rest.invariant in
    let bench = g.D.Bench.state c.args.bench.now in
    let first = ap length c.first_of-token.ensures in
    let all = ap length so_far.tokens in
    let both = length-append so_far.before c.loop-rest.rest.now in
    let few = few_arms so_far.before bench in
    let is = ap (λ (b : BenchState). b.arms) so_far.armed in
    let most = c.requires.arms in
    omega (arith, first, all, both, few, is, most)

pub loop-rest-init : goal.loop-rest-init
loop-rest-init g c = record {
  stand = c.requires.stand;
  on = all_self c.args.mount.now.fds c.args.callers.now;
  workspace = c.requires.workspace;
  bare = c.requires.bare;
  view = c.requires.view;
  before = [];
  tokens = refl;
  trail = [];
  cut = refl;
  well = λ uncut. c.requires.well;
  follows = (refl, refl);
  behind = behind_none c.args.view.run;
  armed = refl;
}

pub loop-rest-preserved : goal.loop-rest-preserved
loop-rest-preserved g c =
    let so_far = c.loop-rest.invariant in
    let fds = c.args.mount.now.fds in
    let rest = c.loop-rest.rest.now in
    let token = c.first_of-token.result in
    let fine = sym c.is_err.ensures.value ∙ c.if-is_err.false in
    let tells = subst (λ (cut : Bool). ScheduleTells fds cut (token ∷ []) c.loop-rest.callers c.follow_one-after.new.callers c.loop-rest.view.run c.follow_one-after.result.0.run (g.D.Bench.state c.loop-rest.bench) (g.D.Bench.state c.follow_one-after.new.bench)
    c.follow_one-after.result.1) so_far.cut c.follow_one-after.ensures.tells in
    let one = done_on fds false so_far.before token c.args.callers.now c.loop-rest.callers c.follow_one-after.new.callers c.args.view.run c.loop-rest.view.run c.follow_one-after.result.0.run so_far.trail
    (g.D.Bench.state c.args.bench.now) (g.D.Bench.state c.loop-rest.bench) (g.D.Bench.state c.follow_one-after.new.bench) so_far.follows so_far.behind so_far.armed c.follow_one-after.result.1 tells fine in
    record {
      stand = c.follow_one-after.ensures.stand;
      on = all_both fds c.args.callers.now c.loop-rest.callers c.follow_one-after.new.callers so_far.on c.follow_one-after.ensures.on;
      workspace = c.follow_one-after.ensures.workspace;
      bare = c.follow_one-after.ensures.bare;
      view = c.follow_one-after.ensures.view;
      before = so_far.before ++ token ∷ [];
      tokens = moved_on c.args.tokens.now so_far.before rest token so_far.tokens c.first_of-token.ensures;
      trail = one.0;
      cut = c.cut_then-cut.ensures ∙ ap (λ cut. cut_behind cut (token ∷ [])) so_far.cut ∙ sym (cut_behind_both false so_far.before (token ∷ []));
      well = λ uncut. on_ok c.follow_one-after.result.1 fine c.follow_one-after.ensures.well (sym c.cut_then-cut.ensures ∙ uncut);
      follows = one.1;
      behind = one.2;
      armed = one.3;
    }

pub returns-then-is_err-clause-tells : goal.returns-then-is_err-clause-tells
returns-then-is_err-clause-tells g c =
    let so_far = c.loop-rest.invariant in
    let fds = c.args.mount.now.fds in
    let rest = c.loop-rest.rest.now in
    let token = c.first_of-token.result in
    let done = c.follow_one-after.result.1 in
    let tells = subst (λ (cut : Bool). ScheduleTells fds cut (token ∷ []) c.loop-rest.callers c.follow_one-after.new.callers c.loop-rest.view.run c.follow_one-after.result.0.run (g.D.Bench.state c.loop-rest.bench) (g.D.Bench.state c.follow_one-after.new.bench)
    done) so_far.cut c.follow_one-after.ensures.tells in
    subst (λ (tokens : List Token). ScheduleTells fds false tokens c.args.callers.now c.follow_one-after.new.callers c.args.view.run c.follow_one-after.result.0.run (g.D.Bench.state c.args.bench.now) (g.D.Bench.state c.follow_one-after.new.bench) done)
    (sym (so_far.tokens ∙ ap (λ l. so_far.before ++ l) c.first_of-token.ensures))
    (schedule_on fds false so_far.before token c.args.callers.now c.loop-rest.callers c.follow_one-after.new.callers c.args.view.run c.loop-rest.view.run c.follow_one-after.result.0.run so_far.trail
    (g.D.Bench.state c.args.bench.now) (g.D.Bench.state c.loop-rest.bench) (g.D.Bench.state c.follow_one-after.new.bench) so_far.follows so_far.behind so_far.armed (drop 1 rest) done tells (sym c.is_err.ensures.value ∙ c.if-is_err.true))

pub returns-then-is_err-clause-cut : goal.returns-then-is_err-clause-cut
returns-then-is_err-clause-cut g c =
    let so_far = c.loop-rest.invariant in
    let old = g.D.Bench.state c.loop-rest.bench in
    let new = g.D.Bench.state c.follow_one-after.new.bench in
    let still : new ≡ old = on_err c.follow_one-after.result.1 (new ≡ old) (sym c.is_err.ensures.value ∙ c.if-is_err.true) c.follow_one-after.ensures.still in
    cut_tells c.loop-rest.cut so_far.before (g.D.Bench.state c.args.bench.now) new so_far.cut (still ∙ so_far.armed)

pub returns-clause-cut : goal.returns-clause-cut
returns-clause-cut g c =
    let so_far = c.loop-rest.invariant in
    cut_tells c.loop-rest.cut so_far.before (g.D.Bench.state c.args.bench.now) (g.D.Bench.state c.loop-rest.bench) so_far.cut so_far.armed

pub returns-then-is_err-clause-armed : goal.returns-then-is_err-clause-armed
returns-then-is_err-clause-armed g c =
    let so_far = c.loop-rest.invariant in
    let old = g.D.Bench.state c.loop-rest.bench in
    let new = g.D.Bench.state c.follow_one-after.new.bench in
    let still : new ≡ old = on_err c.follow_one-after.result.1 (new ≡ old) (sym c.is_err.ensures.value ∙ c.if-is_err.true) c.follow_one-after.ensures.still in
    armed_only so_far.before (g.D.Bench.state c.args.bench.now) new (still ∙ so_far.armed)

pub returns-clause-armed : goal.returns-clause-armed
returns-clause-armed g c =
    let so_far = c.loop-rest.invariant in
    armed_only so_far.before (g.D.Bench.state c.args.bench.now) (g.D.Bench.state c.loop-rest.bench) so_far.armed

pub returns-then-is_err-clause-on : goal.returns-then-is_err-clause-on
returns-then-is_err-clause-on g c = all_both c.args.mount.now.fds c.args.callers.now c.loop-rest.callers c.follow_one-after.new.callers c.loop-rest.invariant.on c.follow_one-after.ensures.on
