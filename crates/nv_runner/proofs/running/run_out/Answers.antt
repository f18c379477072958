-- The outcome of the rounds of a trace.
use Rattle.std.proofs.Common.{◌<◌, List, sym, subst}
use Rattle.std.specs.Prelude.{All, IsPermutation, OnOk}
use Rattle.nv_trace.specs.declared.trace_call.TracedCall.{TracedCall}
use Rattle.nv_runner.specs.Lists.{calls_made, made_calls}
use Rattle.nv_runner.specs.Rounds.{AreCallsOf}
use Rattle.nv_runner.specs.Shifts.{HasRun}
use Rattle.nv_runner.proofs.TraceLaws.{threads_below}
use Rattle.nv_runner.proofs.running.run_out.Goals as goal

pub run_rounds-rounds-requires-clause-below : goal.run_rounds-rounds-requires-clause-below
run_rounds-rounds-requires-clause-below g c =
    let all = threads_below c.args.trace.now.calls 1 in
    λ κs lives. subst (λ (l : List TracedCall). All (λ (call : TracedCall). call.thread < c.thread_count.result) l) (sym c.calls.ensures.calls)
    (subst (λ n. All (λ (call : TracedCall). call.thread < n) c.args.trace.now.calls) (sym c.thread_count.ensures.count) all)

pub returns-clause-outcome : goal.returns-clause-outcome
returns-clause-outcome g c =
    let ran = c.run_rounds-rounds.ensures in
    let made = made_calls c.run_rounds-rounds.new.answered.items in
    let zero = c.run_rounds-rounds.new.zero in
    let calls = c.args.trace.now.calls in
    λ outcome is.
    (c.end_rounds.ensures.outcome calls made c.args.pass.now outcome
    record {
      new = c.requires.new;
      still = ran.still;
      run = subst (λ w. HasRun c.args.mount.now.fds w made zero) c.worker_batch.ensures ran.run;
      distinct = ran.distinct;
      within = subst (λ l. AreCallsOf l made) c.calls.ensures.calls ran.within;
      line_order = c.requires.lines;
      round_order = c.requires.well_formed.round_order;
    }
    (subst (λ (l : List TracedCall). OnOk c.run_rounds-rounds.result (IsPermutation (calls_made made) l)) c.calls.ensures.calls ran.all) is).0
