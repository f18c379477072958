-- The outcome is that of the rounds that were read, as one run, and pass 0 has closed the mount behind it.
use Rattle.std.proofs.Common.{◌≡◌, ◌+◌, map, sym, ap, subst, ◌∙◌}
use Rattle.std.specs.Prelude.{Result, sum_by}
use Rattle.nv_table.specs.state.SlotValues.{part_value, store_value}
use Rattle.nv_table.specs.state.Views.{PassView, first_view}
use Rattle.nv_runner.specs.EndedRuns.{HaveRunRounds, batch_of}
use Rattle.nv_runner.specs.StreamRounds.{HasRunRead}
use Rattle.nv_runner.specs.Streams.{HasStreamed}
use Rattle.nv_runner.specs.declared.kept.KeptCalls.{KeptCalls}
use Rattle.nv_runner.specs.declared.run_error.RunError.{RunError}
use Rattle.nv_runner.proofs.ListedLaws.{on_ok}
use Rattle.nv_runner.proofs.PassLaws.{distinct_taken}
use Rattle.nv_runner.proofs.streams.StreamOutcomes.{none_told, of_ok, streamed}
use Rattle.nv_runner.proofs.stream.run_stream.Goals as goal

pub returns-clause-ran : goal.returns-clause-ran
returns-clause-ran g c =
    let fds = c.args.mount.fds in
    let plan = c.args.plan in
    let start = c.args.pass in
    let first = c.args.trace.now in
    let reader = c.args.reader.now in
    let told = g.I.Source.left c.args.src.now in
    let before = g.O.Sink.written c.args.out.now in
    let now = g.O.Sink.written c.run_read-ended.new.out in
    let was = c.run_read-ended.new.zero in
    let zero = c.end_rounds-ran.new.pass in
    let ended = c.run_read-ended.result in
    let kept = c.run_read-ended.new.kept in
    let ran = c.end_rounds-ran.result in
    let read = subst (λ w. HasRunRead fds w c.args.more first reader told before now kept was ended) c.worker_batch.ensures c.run_read-ended.ensures.ran in
    let parts = c.close_alone-closed.result.parts.items in
    let stores = c.close_alone-closed.result.stores.items in
    let rounds : HaveRunRounds fds (batch_of plan) c.args.mount.board.opened read.all.calls read.made start was = record {
      new = c.requires.new;
      still = c.run_read-ended.ensures.still;
      run = read.run;
      distinct = distinct_taken was.view c.sees_a_run.ensures.run (c.has_taken_in.ensures c.run_read-ended.ensures.zero.number);
      within = read.within;
      line_order = read.trace.lines;
      round_order = read.trace.well_formed.round_order;
    } in
    let all = on_ok c.all_made.result c.all_made.ensures.made (λ there. read.all_made there) in
    let new : start.view ≡ first_view start.view.opened = c.requires.new ∙ ap first_view (sym (ap (λ (view : PassView). view.opened) c.requires.new)) in
    let stream =
    streamed c.args.alloc fds plan start zero was c.args.more first reader told before now ended kept read new (map (part_value g.L.Lines.device g.L.Lines.history g.L.Lines.fault_count g.L.Lines.room) parts)
    (map (store_value g.B.Backing.device g.B.Backing.history g.B.Backing.fault_count) stores) (map g.L.Lines.history parts) (map g.B.Backing.history stores) (sum_by g.L.Lines.fault_count parts + sum_by g.B.Backing.fault_count stores)
    c.close_alone-closed.result.placed c.close_alone-closed.result.tail c.close_alone-closed.ensures.told ran (λ fine. of_ok c.all_made.result (c.end_rounds-ran.ensures.brought fine) c.all_made.ensures.made)
    (λ outcome is. c.end_rounds-ran.ensures.outcome read.all.calls read.made start outcome rounds all is) in
    (zero, subst (λ (calls : Result KeptCalls RunError). HasStreamed fds plan start c.args.more first reader told before now ended calls zero) (sym c.tell_kept.ensures) stream, c.close_alone-closed.ensures.closed, c.close_alone-closed.ensures.told)

pub returns-clause-memory : goal.returns-clause-memory
returns-clause-memory g c =
    λ wanting. none_told c.end_rounds-ran.result c.all_made.result c.run_read-ended.result c.run_read-ended.new.kept c.tell_kept.result c.end_rounds-ran.ensures.brought c.all_made.ensures.made c.tell_kept.ensures wanting
