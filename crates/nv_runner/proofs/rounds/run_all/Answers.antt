-- The next round is made behind those before it.
use Rattle.std.proofs.Common.{◌≡◌, ◌<◌, ◌++◌, refl, sym, ap, subst, ◌∙◌, arith, rules, length}
use Rattle.std.specs.Prelude.{All, Ok}
use Rattle.nv_trace.specs.declared.trace_call.TracedCall.{TracedCall}
use Rattle.nv_runner.specs.Lists.{made_calls}
use Rattle.nv_runner.proofs.ListedLaws.{all_listed, more_listed, run_moved}
use Rattle.nv_runner.proofs.PassLaws.{still_on, still_same}
use Rattle.nv_runner.proofs.RoundLaws.{left_first, left_none, left_on, left_order, left_within, more_within, next_round}
use Rattle.nv_runner.proofs.ShiftLaws.{run_first}
use Rattle.nv_runner.proofs.rounds.run_all.Goals as goal

pub loop-rest-init : goal.loop-rest-init
loop-rest-init g c = record {
  zero = c.requires.zero;
  still = still_same c.args.zero.now c.args.zero.now refl;
  all_in = ap length c.requires.new ∙ sym c.requires.none_made;
  few = omega (arith, c.requires.none_made);
  run = run_first c.args.mount.now.fds c.args.batch (made_calls c.args.answered.now.items) c.args.zero.now (ap made_calls c.requires.none) c.requires.new;
  left = left_first c.args.calls.now (made_calls c.args.answered.now.items) (ap made_calls c.requires.none);
}

pub round_len-requires-clause-round_order : goal.round_len-requires-clause-round_order
round_len-requires-clause-round_order g c = left_order c.args.calls.now c.loop-rest.rest.now (made_calls c.loop-rest.answered.items) c.loop-rest.invariant.left c.requires.round_order

pub run_listed-requires-clause-next : goal.run_listed-requires-clause-next
run_listed-requires-clause-next g c =
    let long = c.round_len.ensures in
    let parts = c.split_at in
    let made = made_calls c.loop-rest.answered.items in
    let next =
    next_round c.args.threads long.round c.args.calls.now c.loop-rest.rest.now parts.result.0.now parts.result.1.now made c.loop-rest.invariant.left parts.ensures.by_index.0
    (omega (arith, long.some, long.within)) long.first (subst (All (λ (call : TracedCall). call.round ≡ long.round)) (sym parts.ensures.front) long.one) c.requires.below c.requires.line_order in
    λ κs lives. (made, next, c.loop-rest.invariant.run)

pub loop-rest-preserved : goal.loop-rest-preserved
loop-rest-preserved g c =
    let long = c.round_len.ensures in
    let parts = c.split_at in
    let made = made_calls c.loop-rest.answered.items in
    let listed = made_calls c.run_listed.new.answered.items in
    let round = subst (All (λ (call : TracedCall). call.round ≡ long.round)) (sym parts.ensures.front) long.one in
    let next =
    next_round c.args.threads long.round c.args.calls.now c.loop-rest.rest.now parts.result.0.now parts.result.1.now made c.loop-rest.invariant.left parts.ensures.by_index.0
    (omega (arith, long.some, long.within)) long.first (subst (All (λ (call : TracedCall). call.round ≡ long.round)) (sym parts.ensures.front) long.one) c.requires.below c.requires.line_order in
    let ran = c.in_ok-run_listed.ensures.ran made next c.loop-rest.invariant.run in
    record {
      zero = c.run_listed.ensures.zero;
      still = still_on c.args.zero.now c.loop-rest.zero c.run_listed.new.zero c.loop-rest.invariant.still c.run_listed.ensures.still;
      all_in = c.run_listed.ensures.all_in;
      few = omega (arith, c.loop-rest.invariant.few, c.run_listed.ensures.few, parts.ensures.back_len, long.some);
      run = run_moved c.args.mount.now.fds c.args.batch (ran.made ++ made) listed c.run_listed.new.zero ran.ran.run ran.listed;
      left = left_on long.round c.args.calls.now c.loop-rest.rest.now parts.result.0.now parts.result.1.now made listed c.loop-rest.invariant.left parts.ensures.by_index.0 round
          (subst (All (λ (call : TracedCall). long.round < call.round)) (sym parts.ensures.back) long.later) (all_listed {T = Unit {0}} {E = Unit {0}} (Ok tt) parts.result.0.now ran.made made listed ran.all ran.listed);
    }

pub returns-in_err-run_listed-clause-still : goal.returns-in_err-run_listed-clause-still
returns-in_err-run_listed-clause-still g c = still_on c.args.zero.now c.loop-rest.zero c.run_listed.new.zero c.loop-rest.invariant.still c.run_listed.ensures.still

pub returns-clause-all : goal.returns-clause-all
returns-clause-all g c = left_none c.args.calls.now c.loop-rest.rest.now (made_calls c.loop-rest.answered.items) c.loop-rest.invariant.left (search rules)

pub returns-in_err-run_listed-clause-run : goal.returns-in_err-run_listed-clause-run
returns-in_err-run_listed-clause-run g c =
    let long = c.round_len.ensures in
    let parts = c.split_at in
    let made = made_calls c.loop-rest.answered.items in
    let next =
    next_round c.args.threads long.round c.args.calls.now c.loop-rest.rest.now parts.result.0.now parts.result.1.now made c.loop-rest.invariant.left parts.ensures.by_index.0
    (omega (arith, long.some, long.within)) long.first (subst (All (λ (call : TracedCall). call.round ≡ long.round)) (sym parts.ensures.front) long.one) c.requires.below c.requires.line_order in
    let ran = c.in_err-run_listed.ensures.ran made next c.loop-rest.invariant.run in
    run_moved c.args.mount.now.fds c.args.batch (ran.made ++ made) (made_calls c.run_listed.new.answered.items) c.run_listed.new.zero ran.ran.run ran.listed

pub returns-in_err-run_listed-clause-within : goal.returns-in_err-run_listed-clause-within
returns-in_err-run_listed-clause-within g c =
    let long = c.round_len.ensures in
    let parts = c.split_at in
    let made = made_calls c.loop-rest.answered.items in
    let listed = made_calls c.run_listed.new.answered.items in
    let next =
    next_round c.args.threads long.round c.args.calls.now c.loop-rest.rest.now parts.result.0.now parts.result.1.now made c.loop-rest.invariant.left parts.ensures.by_index.0
    (omega (arith, long.some, long.within)) long.first (subst (All (λ (call : TracedCall). call.round ≡ long.round)) (sym parts.ensures.front) long.one) c.requires.below c.requires.line_order in
    let ran = c.in_err-run_listed.ensures.ran made next c.loop-rest.invariant.run in
    more_within c.args.calls.now c.loop-rest.rest.now parts.result.0.now parts.result.1.now made listed c.loop-rest.invariant.left parts.ensures.by_index.0
    (more_listed parts.result.0.now ran.made made listed ran.ran.within ran.listed)

pub returns-clause-within : goal.returns-clause-within
returns-clause-within g c = left_within c.args.calls.now c.loop-rest.rest.now (made_calls c.loop-rest.answered.items) c.loop-rest.invariant.left
