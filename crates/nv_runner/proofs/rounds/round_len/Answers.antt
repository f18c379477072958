-- The next call is of another round, or there is none.
use Rattle.std.proofs.Common.{◌≡◌, length, get_or, take, sym, ap, subst, ◌∙◌, arith}
use Rattle.std.specs.Prelude.{All}
use Rattle.std.proofs.lemmas.List.Elements.{at_read}
use Rattle.nv_trace.specs.declared.trace_call.TracedCall.{TracedCall}
use Rattle.nv_runner.proofs.RoundLaws.{round_ends, round_is_all}
use Rattle.nv_runner.proofs.rounds.round_len.Goals as goal

pub returns-then-calls-place : goal.returns-then-calls-place
returns-then-calls-place c =
    let calls = c.args.calls.now in
    let round = (get_or calls 0 c.index-calls-0.result).round in
    let place = c.loop-place.place in
    let next = c.index-calls-place.result in
    let other = at_read calls (λ (call : TracedCall). call.round ≡ round → ⊥) place next (omega arith) c.index-calls-place.is (λ is. c.if-calls-place.true (ap (λ (call : TracedCall). call.round) (sym c.index-calls-place.is) ∙ is)) in
    round_ends calls round place c.requires.round_order (omega arith) (omega arith) c.loop-place.invariant other

pub returns : goal.returns
returns c =
    let calls = c.args.calls.now in
    let round = (get_or calls 0 c.index-calls-0.result).round in
    let all : c.loop-place.place ≡ length calls = omega arith in
    round_is_all calls round c.requires.some (subst (λ n. All (λ (call : TracedCall). call.round ≡ round) (take n calls)) all c.loop-place.invariant)
