-- Each round is run behind those before it, and the next one read.
use Rattle.std.proofs.Common.{◌≡◌, ◌++◌, true, false, length, refl, sym, ap, subst, ◌∙◌, arith}
use Rattle.std.specs.Prelude.{IfSome, Ok}
use Rattle.std.proofs.lemmas.Bool.{false≢true}
use Rattle.std.proofs.lemmas.Result.{err_from_is_err_and}
use Rattle.nv_trace.specs.NextRound.{IsRoundRefused, ahead}
use Rattle.nv_runner.proofs.PassLaws.{still_on, still_same}
use Rattle.nv_runner.proofs.streams.StreamEnds.{ended_here, last_here, ran_on, refused_here}
use Rattle.nv_runner.proofs.streams.StreamReads.{HandIs}
use Rattle.nv_runner.proofs.streams.StreamSteps.{IsTraceSoFar, amid_read, counts_few, fewer_left, first_amid, next_at_hand}
use Rattle.nv_runner.proofs.stream.run_read.Goals as goal

pub loop-trace-init : goal.loop-trace-init
loop-trace-init g c = record {
  zero = c.requires.zero;
  still = still_same c.args.zero.now c.args.zero.now refl;
  all_in = ap length c.requires.new ∙ sym c.requires.none_made;
  few = omega (arith, c.requires.none_made);
  few_more = λ _. omega (arith, c.requires.none_made);
  amid = first_amid c.args.mount.now.fds c.args.batch c.args.more c.args.trace.now c.args.reader.now (g.I.Source.left c.args.src.now) (g.O.Sink.written c.args.out.now) c.args.kept.now c.args.zero.now c.requires.first c.requires.none c.requires.new;
  unread = λ last. (last, refl);
  reads = refl;
  writes = refl;
}

pub run_written-requires-clause-few : goal.run_written-requires-clause-few
run_written-requires-clause-few g c = omega (arith, c.loop-trace.invariant.few)

pub run_written-requires-clause-next : goal.run_written-requires-clause-next
run_written-requires-clause-next g c =
    let amid = c.loop-trace.invariant.amid in
    λ κs lives. (amid.run.made, next_at_hand c.loop-trace.more c.args.trace.now c.loop-trace.trace c.loop-trace.reader amid.before amid.run.made amid.trace amid.run.all, amid.run.run)

pub run_written-requires-clause-placed : goal.run_written-requires-clause-placed
run_written-requires-clause-placed g c =
    let amid = c.loop-trace.invariant.amid in
    let few = counts_few c.loop-trace.more c.args.trace.now c.loop-trace.trace c.loop-trace.reader amid.before c.args.mount.now.fds c.args.batch (g.O.Sink.written c.args.out.now) (g.O.Sink.written c.loop-trace.out) c.loop-trace.kept c.loop-trace.zero amid.trace amid.run in
    omega (arith, few.0)

pub run_written-requires-clause-refused : goal.run_written-requires-clause-refused
run_written-requires-clause-refused g c =
    let amid = c.loop-trace.invariant.amid in
    let few = counts_few c.loop-trace.more c.args.trace.now c.loop-trace.trace c.loop-trace.reader amid.before c.args.mount.now.fds c.args.batch (g.O.Sink.written c.args.out.now) (g.O.Sink.written c.loop-trace.out) c.loop-trace.kept c.loop-trace.zero amid.trace amid.run in
    omega (arith, few.1)

pub returns-in_err-run_written-clause-still : goal.returns-in_err-run_written-clause-still
returns-in_err-run_written-clause-still g c = still_on c.args.zero.now c.loop-trace.zero c.run_written.new.zero c.loop-trace.invariant.still c.run_written.ensures.still

pub returns-in_err-run_written-clause-ran : goal.returns-in_err-run_written-clause-ran
returns-in_err-run_written-clause-ran g c =
    let amid = c.loop-trace.invariant.amid in
    let now = c.loop-trace.trace in
    let p = err_from_is_err_and c.from_residual.result c.from_residual.ensures.1 in
    let next = next_at_hand c.loop-trace.more c.args.trace.now now c.loop-trace.reader amid.before amid.run.made amid.trace amid.run.all in
    rw (p.1, p.2)
    (ended_here c.loop-trace.more c.args.trace.now now c.loop-trace.reader amid.before amid.trace c.args.mount.now.fds c.args.batch (g.O.Sink.written c.args.out.now) (g.O.Sink.written c.loop-trace.out) (g.O.Sink.written c.run_written.new.out) c.loop-trace.kept
    c.run_written.new.kept c.loop-trace.zero c.run_written.new.zero amid.run c.args.more c.args.reader.now (g.I.Source.left c.args.src.now) (g.I.Source.left c.loop-trace.src) c.run_written.ensures.well_formed amid.hand c.in_err-run_written.field-0.0
    (c.in_err-run_written.ensures.ran amid.run.made next amid.run.run))

pub returns-then-not-more-clause-still : goal.returns-then-not-more-clause-still
returns-then-not-more-clause-still g c = still_on c.args.zero.now c.loop-trace.zero c.run_written.new.zero c.loop-trace.invariant.still c.run_written.ensures.still

pub returns-then-not-more-clause-ran : goal.returns-then-not-more-clause-ran
returns-then-not-more-clause-ran g c =
    let amid = c.loop-trace.invariant.amid in
    let now = c.loop-trace.trace in
    let first = c.args.trace.now in
    let told = g.I.Source.left c.args.src.now in
    let left = g.I.Source.left c.loop-trace.src in
    let last : c.loop-trace.more ≡ false = grind (arith, c.if-not-more.true) in
    let next = next_at_hand c.loop-trace.more first now c.loop-trace.reader amid.before amid.run.made amid.trace amid.run.all in
    let run = ran_on c.loop-trace.more first now c.loop-trace.reader amid.before amid.trace c.args.mount.now.fds c.args.batch (g.O.Sink.written c.args.out.now) (g.O.Sink.written c.loop-trace.out) (g.O.Sink.written c.run_written.new.out) c.loop-trace.kept
    c.run_written.new.kept c.loop-trace.zero c.run_written.new.zero amid.run (c.in_ok-run_written.ensures.ran amid.run.made next amid.run.run) in
    last_here first now c.loop-trace.reader amid.before c.args.mount.now.fds c.args.batch (g.O.Sink.written c.args.out.now) (g.O.Sink.written c.run_written.new.out) c.run_written.new.kept c.run_written.new.zero c.args.more c.args.reader.now told left
    c.run_written.ensures.well_formed run (subst (λ m. IsTraceSoFar m first now c.loop-trace.reader amid.before) last amid.trace) (subst (λ m. HandIs c.args.more m first c.args.reader.now told now c.loop-trace.reader left amid.before) last amid.hand)

pub returns-then-not-more-clause-at_end : goal.returns-then-not-more-clause-at_end
returns-then-not-more-clause-at_end g c =
    let last : c.loop-trace.more ≡ false = grind (arith, c.if-not-more.true) in
    λ _ more. c.loop-trace.invariant.amid.at_end last more

pub returns-in_err-more-clause-still : goal.returns-in_err-more-clause-still
returns-in_err-more-clause-still g c = still_on c.args.zero.now c.loop-trace.zero c.run_written.new.zero c.loop-trace.invariant.still c.run_written.ensures.still

pub returns-in_err-more-clause-ran : goal.returns-in_err-more-clause-ran
returns-in_err-more-clause-ran g c =
    let amid = c.loop-trace.invariant.amid in
    let now = c.loop-trace.trace in
    let first = c.args.trace.now in
    let told = g.I.Source.left c.args.src.now in
    let left = g.I.Source.left c.loop-trace.src in
    let p = err_from_is_err_and c.from_residual-in_err-more.result c.from_residual-in_err-more.ensures.1 in
    let more : c.loop-trace.more ≡ true = grind (arith, c.if-not-more.false) in
    let next = next_at_hand c.loop-trace.more first now c.loop-trace.reader amid.before amid.run.made amid.trace amid.run.all in
    let run = ran_on c.loop-trace.more first now c.loop-trace.reader amid.before amid.trace c.args.mount.now.fds c.args.batch (g.O.Sink.written c.args.out.now) (g.O.Sink.written c.loop-trace.out) (g.O.Sink.written c.run_written.new.out) c.loop-trace.kept
    c.run_written.new.kept c.loop-trace.zero c.run_written.new.zero amid.run (c.in_ok-run_written.ensures.ran amid.run.made next amid.run.run) in
    let refused = subst (λ t. IfSome left (λ rest. IsRoundRefused t c.loop-trace.reader (ahead c.loop-trace.reader ++ rest) c.next_round.new.trace c.in_err-more.field-0.0)) c.drop_calls.ensures c.in_err-more.ensures.refused in
    rw (p.1, p.2)
    (refused_here first now c.loop-trace.reader amid.before c.args.mount.now.fds c.args.batch (g.O.Sink.written c.args.out.now) (g.O.Sink.written c.run_written.new.out) c.run_written.new.kept c.run_written.new.zero c.args.more c.args.reader.now told left
    c.run_written.ensures.well_formed run c.next_round.new.trace c.in_err-more.field-0.0 (subst (λ m. IsTraceSoFar m first now c.loop-trace.reader amid.before) more amid.trace) (subst (λ m. HandIs c.args.more m first c.args.reader.now told now c.loop-trace.reader left amid.before) more amid.hand) refused)

pub loop-trace-preserved : goal.loop-trace-preserved
loop-trace-preserved g c =
    let inv = c.loop-trace.invariant in
    let amid = inv.amid in
    let now = c.loop-trace.trace in
    let reader = c.loop-trace.reader in
    let first = c.args.trace.now in
    let told = g.I.Source.left c.args.src.now in
    let left = g.I.Source.left c.loop-trace.src in
    let more : c.loop-trace.more ≡ true = grind (arith, c.if-not-more.false) in
    let next = next_at_hand c.loop-trace.more first now reader amid.before amid.run.made amid.trace amid.run.all in
    let run = ran_on c.loop-trace.more first now reader amid.before amid.trace c.args.mount.now.fds c.args.batch (g.O.Sink.written c.args.out.now) (g.O.Sink.written c.loop-trace.out) (g.O.Sink.written c.run_written.new.out) c.loop-trace.kept
    c.run_written.new.kept c.loop-trace.zero c.run_written.new.zero amid.run (c.in_ok-run_written.ensures.ran amid.run.made next amid.run.run) in
    let trace = subst (λ m. IsTraceSoFar m first now reader amid.before) more amid.trace in
    let hand = subst (λ m. HandIs c.args.more m first c.args.reader.now told now reader left amid.before) more amid.hand in
    let read = c.in_ok-more.ensures in
    let few = inv.few_more more in
    let taken = amid.trace.hand.at_line.taken in
    let new = c.run_written.ensures.few in
    record {
      zero = c.run_written.ensures.zero;
      still = still_on c.args.zero.now c.loop-trace.zero c.run_written.new.zero inv.still c.run_written.ensures.still;
      all_in = c.run_written.ensures.all_in;
      few = omega (arith, few, taken, new);
      few_more = λ is. (let further = read.further (ap Ok is) in omega (arith, few, new, further));
      amid = amid_read c.args.mount.now.fds c.args.batch c.args.more c.in_ok-more.more first c.args.reader.now now c.drop_calls.new.self reader c.next_round.new.trace c.next_round.new.self told left (g.I.Source.left c.next_round.new.src) (g.O.Sink.written c.args.out.now)
          (g.O.Sink.written c.run_written.new.out) c.run_written.new.kept c.run_written.new.zero amid.before (Ok c.in_ok-more.more) refl trace hand run c.run_written.ensures.well_formed c.drop_calls.ensures read.adds read.within read.counts read.further read.numbered c.next_round.ensures.form
          read.onward read.round read.last;
      unread = λ last. absurd (false≢true (sym (inv.unread last).0 ∙ more));
      reads = read.kept (λ is. absurd (cc)) ∙ inv.reads;
      writes = c.in_ok-run_written.ensures.same (λ is. absurd (cc)) ∙ inv.writes;
    }

pub returns-in_err-run_written-clause-unread : goal.returns-in_err-run_written-clause-unread
returns-in_err-run_written-clause-unread g c = λ last. (c.loop-trace.invariant.unread last).1

pub returns-then-not-more-clause-unread : goal.returns-then-not-more-clause-unread
returns-then-not-more-clause-unread g c = λ last. (c.loop-trace.invariant.unread last).1

pub returns-in_err-more-clause-unread : goal.returns-in_err-more-clause-unread
returns-in_err-more-clause-unread g c =
    let more : c.loop-trace.more ≡ true = grind (arith, c.if-not-more.false) in
    λ last. absurd (false≢true (sym (c.loop-trace.invariant.unread last).0 ∙ more))

pub loop-trace-smaller : goal.loop-trace-smaller
loop-trace-smaller g c =
    let more : c.loop-trace.more ≡ true = grind (arith, c.if-not-more.false) in
    rw more (fewer_left c.in_ok-more.more c.loop-trace.reader.taken c.next_round.new.self.taken c.loop-trace.invariant.amid.trace.hand.at_line.taken (λ is. c.in_ok-more.ensures.further (ap Ok is)))
