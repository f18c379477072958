-- What is told is of the calls of the load.
use Rattle.std.proofs.Common.{refl, sym, subst, arith}
use Rattle.std.specs.Prelude.{Result}
use Rattle.nv_runner.specs.Shifts.{HasRun}
use Rattle.nv_runner.specs.declared.run_error.RunError.{RunError}
use Rattle.nv_runner.proofs.PassLaws.{distinct_taken}
use Rattle.nv_load.specs.Generated.{generated, generated_calls}
use Rattle.nv_load.specs.LoadRuns.{IsCountOf}
use Rattle.nv_load.specs.declared.counts.Counts.{Counts}
use Rattle.nv_load.proofs.OwnerLaws.{all_lines, all_rounds}
use Rattle.nv_load.proofs.RunLaws.{told_so}
use Rattle.nv_load.proofs.ShapeLaws.{generated_few}
use Rattle.nv_load.proofs.running.run_out.Goals as goal

pub returns-clause-ran : goal.returns-clause-ran
returns-clause-ran g c =
    let ran = c.run_both-rounds.ensures in
    let both = ran.ran in
    let calls = generated_calls c.args.load in
    let zero = c.run_both-rounds.new.zero in
    let fds = c.args.mount.now.fds in
    let long = generated_few c.args.load (generated c.args.load) c.requires.load refl in
    let told =
    told_so c.args.alloc fds c.args.plan calls both.made c.args.pass.now c.end_rounds-ran.new.pass c.run_both-rounds.new.counts c.end_rounds-ran.result (let few = both.few in omega (arith, few, long)) both.counted
    (λ outcome is.
    (c.end_rounds-ran.ensures.outcome calls both.made c.args.pass.now outcome
    record {
      new = c.requires.new;
      still = ran.still;
      run = subst (λ w. HasRun fds w both.made zero) c.worker_batch.ensures both.run;
      distinct = distinct_taken zero.view c.sees_a_run.ensures.run (c.has_taken_in.ensures ran.zero.number);
      within = both.within;
      line_order = all_lines c.args.load;
      round_order = all_rounds c.args.load;
    }
    both.all is).0) in
    (told.0, told.1, subst (λ (r : Result Counts RunError). IsCountOf r told.0) (sym c.counted.ensures) told.2)
