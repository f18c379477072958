-- The calls of the round were made, and are kept; the sink took their lines, or a front.
use Rattle.std.proofs.Common.{◌∙◌, arith}
use Rattle.std.specs.Prelude.{Ok, Err}
use Rattle.std.proofs.lemmas.Result.{err_from_is_err_and}
use Rattle.nv_runner.proofs.streams.StreamEnds.{kinds_few, round_unwritten, round_wanting, round_written}
use Rattle.nv_runner.proofs.stream.run_written.Goals as goal

pub take-requires-clause-placed : goal.take-requires-clause-placed
take-requires-clause-placed g c =
    let ran = c.in_ok-sorted.ensures.ran c.requires.next.0 c.requires.next.1 c.requires.next.2 in
    let few = kinds_few c.args.trace.now.calls ran.made c.in_ok-sorted.sorted ran.sorted.0 ran.ran.few in
    omega (arith, few.0, c.requires.placed)

pub take-requires-clause-refused : goal.take-requires-clause-refused
take-requires-clause-refused g c =
    let ran = c.in_ok-sorted.ensures.ran c.requires.next.0 c.requires.next.1 c.requires.next.2 in
    let few = kinds_few c.args.trace.now.calls ran.made c.in_ok-sorted.sorted ran.sorted.0 ran.ran.few in
    omega (arith, few.1, c.requires.refused)

pub returns-in_err-sorted-clause-ran : goal.returns-in_err-sorted-clause-ran
returns-in_err-sorted-clause-ran g c = λ before next run.
    let p = err_from_is_err_and c.from_residual.result c.from_residual.ensures.1 in
    rw (p.1, p.2)
    (round_wanting c.args.mount.now.fds c.args.batch c.args.trace.now.calls before c.run_sorted.new.zero (g.O.Sink.written c.args.out.now) c.args.kept.now c.args.kept.now (Err c.in_err-sorted.field-0.0) (c.in_err-sorted.ensures.ran before next run))

pub returns-in_err-lines-clause-ran : goal.returns-in_err-lines-clause-ran
returns-in_err-lines-clause-ran g c = λ before next run.
    let p = err_from_is_err_and c.from_residual-in_err-lines.result c.from_residual-in_err-lines.ensures.1 in
    rw (p.1, p.2)
    (round_wanting c.args.mount.now.fds c.args.batch c.args.trace.now.calls before c.run_sorted.new.zero (g.O.Sink.written c.args.out.now) c.args.kept.now c.take.new.self (Ok c.in_ok-sorted.sorted) (c.in_ok-sorted.ensures.ran before next run))

pub returns-in_err-write_all-clause-ran : goal.returns-in_err-write_all-clause-ran
returns-in_err-write_all-clause-ran g c = λ before next run.
    let p = err_from_is_err_and c.from_residual-in_err-write_all.result c.from_residual-in_err-write_all.ensures.1 in
    let ran = c.in_ok-sorted.ensures.ran before next run in
    rw (p.1, p.2)
    (round_unwritten c.args.mount.now.fds c.args.batch c.args.trace.now.calls before ran.made c.run_sorted.new.zero (g.O.Sink.written c.args.out.now) (g.O.Sink.written c.write_all.new.out) c.args.kept.now c.take.new.self c.deref.result.now
    c.in_ok-sorted.sorted ran.ran ran.sorted.0 ran.sorted.1 c.in_ok-lines.ensures.kept (c.deref.ensures.value ∙ c.in_ok-lines.ensures.lines) c.in_err-write_all.ensures.wanted c.in_err-write_all.ensures.front)

pub returns-clause-ran : goal.returns-clause-ran
returns-clause-ran g c = λ before next run.
    let ran = c.in_ok-sorted.ensures.ran before next run in
    round_written c.args.mount.now.fds c.args.batch c.args.trace.now.calls before ran.made c.run_sorted.new.zero (g.O.Sink.written c.args.out.now) (g.O.Sink.written c.write_all.new.out) c.args.kept.now c.take.new.self c.deref.result.now
    c.in_ok-sorted.sorted ran.ran ran.sorted.0 ran.sorted.1 c.in_ok-lines.ensures.kept (c.deref.ensures.value ∙ c.in_ok-lines.ensures.lines) c.in_ok-write_all.ensures.all
