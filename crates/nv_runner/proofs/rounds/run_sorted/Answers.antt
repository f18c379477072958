-- The calls of the round are those that were listed, which are sorted out.
use Rattle.std.proofs.Common.{◌≡◌, ℕ, List, refl, sym, subst, rules}
use Rattle.std.specs.Prelude.{Ok, Err}
use Rattle.nv_trace.specs.Traced.{thread_count}
use Rattle.nv_trace.specs.declared.trace_call.TracedCall.{TracedCall}
use Rattle.nv_runner.specs.Lists.{MadeCall, made_calls}
use Rattle.nv_runner.specs.Rounds.{IsNextRound}
use Rattle.nv_runner.specs.StreamRounds.{HasRunSorted}
use Rattle.nv_runner.proofs.ListedLaws.{round_sorted, round_unsorted}
use Rattle.nv_runner.proofs.rounds.run_sorted.Goals as goal

-- the calls of a trace by its threads, as it tells them
told_next : (count threads : ℕ) (calls listed : List TracedCall) (before : List MadeCall) → threads ≡ count → listed ≡ calls → IsNextRound count calls before → IsNextRound threads listed before
told_next count threads calls listed before same is next = subst (λ l. IsNextRound threads l before) (sym is) (subst (λ n. IsNextRound n calls before) (sym same) next)

pub run_listed-requires-clause-next : goal.run_listed-requires-clause-next
run_listed-requires-clause-next g c =
    let next = told_next (thread_count c.args.trace.now) c.thread_count.result c.args.trace.now.calls c.calls.result.now c.requires.next.0 c.thread_count.ensures.count c.calls.ensures.calls c.requires.next.1 in
    λ κs lives. (c.requires.next.0, next, c.requires.next.2)

pub returns-in_err-run_listed-clause-ran : goal.returns-in_err-run_listed-clause-ran
returns-in_err-run_listed-clause-ran g c = λ before next run.
    let there = told_next (thread_count c.args.trace.now) c.thread_count.result c.args.trace.now.calls c.calls.result.now before c.thread_count.ensures.count c.calls.ensures.calls next in
    let zero = c.run_listed.new.zero in
    let listed = made_calls c.run_listed.new.answered.items in
    subst (λ l. HasRunSorted c.args.mount.now.fds c.args.batch l before zero c.from_residual.result) c.calls.ensures.calls
    (round_unsorted c.args.mount.now.fds c.args.batch c.calls.result.now before (made_calls c.new-answered.result.items) listed zero (Err c.in_err-run_listed.field-0.0) c.from_residual.result c.from_residual.ensures.0 (c.in_err-run_listed.ensures.ran before there run))

pub returns-clause-ran : goal.returns-clause-ran
returns-clause-ran g c = λ before next run.
    let there = told_next (thread_count c.args.trace.now) c.thread_count.result c.args.trace.now.calls c.calls.result.now before c.thread_count.ensures.count c.calls.ensures.calls next in
    let zero = c.run_listed.new.zero in
    let listed = made_calls c.run_listed.new.answered.items in
    subst (λ l. HasRunSorted c.args.mount.now.fds c.args.batch l before zero c.sort_out.result) c.calls.ensures.calls
    (round_sorted c.args.mount.now.fds c.args.batch c.calls.result.now before (made_calls c.new-answered.result.items) listed zero (Ok tt) c.sort_out.result refl (search rules) (c.in_ok-run_listed.ensures.ran before there run) c.sort_out.ensures)
