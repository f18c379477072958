use Rattle.std.proofs.Common.{◌≡◌, false, [], refl, subst, ◌∙◌, arith}
use Rattle.std.proofs.lemmas.Result.{err_from_is_err_and}
use Rattle.nv_trace.specs.Ahead.{HasTakenAhead}
use Rattle.nv_trace.proofs.FewTokens.{last_few, round_few}
use Rattle.nv_trace.proofs.NextRounds.{at_start, bad_last, further, last_alone, last_at, not_taken, on_ended, on_filled, on_taken, refused_at, round_alone, round_at, some_ahead}
use Rattle.nv_trace.proofs.RoundCalls.{last_round_adds, round_adds}
use Rattle.nv_trace.proofs.reader.LineReader.next_round.Goals as goal

pub loop-self-init : goal.loop-self-init
loop-self-init g c = record {
  within = grind arith;
  reads = at_start c.args.trace.now c.args.self.now (g.I.Source.left c.args.src.now);
  enough = λ has. (refl, refl);
  faults = grind arith;
  onward = grind arith;
  form = grind arith;
  numbered = λ numbered. numbered;
}

pub returns-in_err-finish-clause-refused : goal.returns-in_err-finish-clause-refused
returns-in_err-finish-clause-refused g c =
    let p = err_from_is_err_and c.from_residual-in_err-finish.result c.from_residual-in_err-finish.ensures.1 in
    let told = g.I.Source.left c.args.src.now in
    let left = g.I.Source.left c.loop-self.src in
    let next = g.I.Source.left c.fill.new.src in
    let none : c.in_ok-fill.field-0 ≡ false = grind (arith, c.if-not-branch.true) in
    let reads = on_filled c.args.trace.now c.args.self.now c.loop-self.trace c.loop-self.self told left next c.fill.new.self c.in_ok-fill.field-0 c.fill.ensures.same.0 c.fill.ensures.same.1 c.loop-self.invariant.reads c.in_ok-fill.ensures.filled in
    let ends = on_ended c.args.trace.now c.args.self.now c.loop-self.trace c.loop-self.self told left next c.fill.new.self c.in_ok-fill.field-0 none c.loop-self.invariant.reads c.in_ok-fill.ensures.filled in
    rw (p.1, p.2)
    (bad_last c.args.trace.now c.args.self.now c.loop-self.trace c.fill.new.self told next c.finish.new.trace c.in_err-finish.field-0.0 c.in_err-finish.ensures.unchanged c.requires.bare (omega (arith, c.fill.ensures.same.1, c.loop-self.invariant.within.taken))
    (c.in_ok-fill.ensures.filled.none_ahead none) reads ends c.in_err-finish.ensures.some c.in_err-finish.ensures.bad)

pub returns-then-not-branch-clause-last : goal.returns-then-not-branch-clause-last
returns-then-not-branch-clause-last g c =
    let told = g.I.Source.left c.args.src.now in
    let left = g.I.Source.left c.loop-self.src in
    let next = g.I.Source.left c.fill.new.src in
    let none : c.in_ok-fill.field-0 ≡ false = grind (arith, c.if-not-branch.true) in
    let reads = on_filled c.args.trace.now c.args.self.now c.loop-self.trace c.loop-self.self told left next c.fill.new.self c.in_ok-fill.field-0 c.fill.ensures.same.0 c.fill.ensures.same.1 c.loop-self.invariant.reads c.in_ok-fill.ensures.filled in
    let ends = on_ended c.args.trace.now c.args.self.now c.loop-self.trace c.loop-self.self told left next c.fill.new.self c.in_ok-fill.field-0 none c.loop-self.invariant.reads c.in_ok-fill.ensures.filled in
    λ _.
    last_at c.args.trace.now c.args.self.now c.loop-self.trace c.fill.new.self told next c.finish.new.trace c.finish.new.self c.requires.bare (omega (arith, c.fill.ensures.same.1, c.loop-self.invariant.within.taken))
    (c.in_ok-fill.ensures.filled.none_ahead none) reads ends c.in_ok-finish.ensures.whole c.in_ok-finish.ensures.none

pub returns-in_err-take_ahead-clause-refused : goal.returns-in_err-take_ahead-clause-refused
returns-in_err-take_ahead-clause-refused g c =
    let p = err_from_is_err_and c.from_residual-in_err-take_ahead.result c.from_residual-in_err-take_ahead.ensures.1 in
    let told = g.I.Source.left c.args.src.now in
    let left = g.I.Source.left c.loop-self.src in
    let next = g.I.Source.left c.fill.new.src in
    let reads = on_filled c.args.trace.now c.args.self.now c.loop-self.trace c.loop-self.self told left next c.fill.new.self c.in_ok-fill.field-0 c.fill.ensures.same.0 c.fill.ensures.same.1 c.loop-self.invariant.reads c.in_ok-fill.ensures.filled in
    rw (p.1, p.2)
    (refused_at c.args.trace.now c.args.self.now c.loop-self.trace c.fill.new.self told next c.take_ahead.new.trace c.in_err-take_ahead.field-0.0 c.requires.bare (omega (arith, c.fill.ensures.same.1, c.loop-self.invariant.within.taken)) reads c.in_err-take_ahead.ensures.refused)

pub returns-then-branch-clause-round : goal.returns-then-branch-clause-round
returns-then-branch-clause-round g c =
    let told = g.I.Source.left c.args.src.now in
    let left = g.I.Source.left c.loop-self.src in
    let next = g.I.Source.left c.fill.new.src in
    let reads = on_filled c.args.trace.now c.args.self.now c.loop-self.trace c.loop-self.self told left next c.fill.new.self c.in_ok-fill.field-0 c.fill.ensures.same.0 c.fill.ensures.same.1 c.loop-self.invariant.reads c.in_ok-fill.ensures.filled in
    let taken = subst (HasTakenAhead c.loop-self.trace c.fill.new.self c.take_ahead.new.trace c.take_ahead.new.self) c.if-branch.true c.in_ok-take_ahead.ensures.taken in
    λ _. round_at c.args.trace.now c.args.self.now c.loop-self.trace c.fill.new.self told next c.take_ahead.new.trace c.take_ahead.new.self c.requires.bare c.in_ok-take_ahead.ensures.within.taken reads taken

pub returns-then-branch-clause-further : goal.returns-then-branch-clause-further
returns-then-branch-clause-further g c =
    let taken = subst (HasTakenAhead c.loop-self.trace c.fill.new.self c.take_ahead.new.trace c.take_ahead.new.self) c.if-branch.true c.in_ok-take_ahead.ensures.taken in
    λ _. further c.args.trace.now c.args.self.now c.loop-self.trace c.fill.new.self c.take_ahead.new.trace c.take_ahead.new.self (omega (arith, c.fill.ensures.same.1, c.loop-self.invariant.reads.count)) taken

pub loop-self-preserved : goal.loop-self-preserved
loop-self-preserved g c =
    let told = g.I.Source.left c.args.src.now in
    let left = g.I.Source.left c.loop-self.src in
    let next = g.I.Source.left c.fill.new.src in
    let reads = on_filled c.args.trace.now c.args.self.now c.loop-self.trace c.loop-self.self told left next c.fill.new.self c.in_ok-fill.field-0 c.fill.ensures.same.0 c.fill.ensures.same.1 c.loop-self.invariant.reads c.in_ok-fill.ensures.filled in
    let taken = subst (HasTakenAhead c.loop-self.trace c.fill.new.self c.take_ahead.new.trace c.take_ahead.new.self) c.if-branch.false c.in_ok-take_ahead.ensures.taken in
    record {
      within = c.in_ok-take_ahead.ensures.within;
      reads = on_taken c.args.trace.now c.args.self.now c.loop-self.trace c.fill.new.self told next c.take_ahead.new.trace c.take_ahead.new.self reads taken;
      enough =
          λ has.
          let at_first = c.loop-self.invariant.enough has in
          let stays = c.fill.ensures.enough (some_ahead c.args.self.now c.loop-self.self at_first.1 has c.loop-self.invariant.within.start) in
          absurd (not_taken c.loop-self.trace c.take_ahead.new.trace c.args.self.now c.fill.new.self c.take_ahead.new.self.pending (stays.1 ∙ at_first.1) c.requires.bare taken.1 has);
      faults = grind arith;
      onward = grind arith;
      form = grind arith;
      numbered = grind arith;
    }

pub returns-in_err-fill-clause-enough : goal.returns-in_err-fill-clause-enough
returns-in_err-fill-clause-enough g c = λ has.
    let at_first = c.loop-self.invariant.enough has in
    (c.fill.ensures.enough (some_ahead c.args.self.now c.loop-self.self at_first.1 has c.loop-self.invariant.within.start)).0 ∙ at_first.0

pub returns-in_err-finish-clause-enough : goal.returns-in_err-finish-clause-enough
returns-in_err-finish-clause-enough g c = λ has.
    let at_first = c.loop-self.invariant.enough has in
    (c.fill.ensures.enough (some_ahead c.args.self.now c.loop-self.self at_first.1 has c.loop-self.invariant.within.start)).0 ∙ at_first.0

pub returns-then-not-branch-clause-enough : goal.returns-then-not-branch-clause-enough
returns-then-not-branch-clause-enough g c = λ has.
    let at_first = c.loop-self.invariant.enough has in
    (c.fill.ensures.enough (some_ahead c.args.self.now c.loop-self.self at_first.1 has c.loop-self.invariant.within.start)).0 ∙ at_first.0

pub returns-in_err-take_ahead-clause-enough : goal.returns-in_err-take_ahead-clause-enough
returns-in_err-take_ahead-clause-enough g c = λ has.
    let at_first = c.loop-self.invariant.enough has in
    (c.fill.ensures.enough (some_ahead c.args.self.now c.loop-self.self at_first.1 has c.loop-self.invariant.within.start)).0 ∙ at_first.0

pub returns-then-branch-clause-enough : goal.returns-then-branch-clause-enough
returns-then-branch-clause-enough g c = λ has.
    let at_first = c.loop-self.invariant.enough has in
    (c.fill.ensures.enough (some_ahead c.args.self.now c.loop-self.self at_first.1 has c.loop-self.invariant.within.start)).0 ∙ at_first.0

pub returns-then-branch-clause-adds : goal.returns-then-branch-clause-adds
returns-then-branch-clause-adds g c =
    let told = g.I.Source.left c.args.src.now in
    let left = g.I.Source.left c.loop-self.src in
    let next = g.I.Source.left c.fill.new.src in
    let reads = on_filled c.args.trace.now c.args.self.now c.loop-self.trace c.loop-self.self told left next c.fill.new.self c.in_ok-fill.field-0 c.fill.ensures.same.0 c.fill.ensures.same.1 c.loop-self.invariant.reads c.in_ok-fill.ensures.filled in
    let taken = subst (HasTakenAhead c.loop-self.trace c.fill.new.self c.take_ahead.new.trace c.take_ahead.new.self) c.if-branch.true c.in_ok-take_ahead.ensures.taken in
    let round = round_alone c.args.trace.now c.args.self.now c.loop-self.trace c.fill.new.self told next c.take_ahead.new.trace c.take_ahead.new.self c.requires.bare c.in_ok-take_ahead.ensures.within.taken reads taken in
    (round_adds c.args.trace.now c.args.self.now round.0 c.take_ahead.new.trace c.take_ahead.new.self [] round.1).0

pub returns-then-branch-clause-counts : goal.returns-then-branch-clause-counts
returns-then-branch-clause-counts g c =
    let told = g.I.Source.left c.args.src.now in
    let left = g.I.Source.left c.loop-self.src in
    let next = g.I.Source.left c.fill.new.src in
    let reads = on_filled c.args.trace.now c.args.self.now c.loop-self.trace c.loop-self.self told left next c.fill.new.self c.in_ok-fill.field-0 c.fill.ensures.same.0 c.fill.ensures.same.1 c.loop-self.invariant.reads c.in_ok-fill.ensures.filled in
    let taken = subst (HasTakenAhead c.loop-self.trace c.fill.new.self c.take_ahead.new.trace c.take_ahead.new.self) c.if-branch.true c.in_ok-take_ahead.ensures.taken in
    let round = round_alone c.args.trace.now c.args.self.now c.loop-self.trace c.fill.new.self told next c.take_ahead.new.trace c.take_ahead.new.self c.requires.bare c.in_ok-take_ahead.ensures.within.taken reads taken in
    λ _. (round_adds c.args.trace.now c.args.self.now round.0 c.take_ahead.new.trace c.take_ahead.new.self [] round.1).1

pub returns-then-not-branch-clause-adds : goal.returns-then-not-branch-clause-adds
returns-then-not-branch-clause-adds g c =
    let told = g.I.Source.left c.args.src.now in
    let left = g.I.Source.left c.loop-self.src in
    let next = g.I.Source.left c.fill.new.src in
    let reads = on_filled c.args.trace.now c.args.self.now c.loop-self.trace c.loop-self.self told left next c.fill.new.self c.in_ok-fill.field-0 c.fill.ensures.same.0 c.fill.ensures.same.1 c.loop-self.invariant.reads c.in_ok-fill.ensures.filled in
    let last = last_alone c.args.trace.now c.args.self.now c.loop-self.trace c.fill.new.self told next c.finish.new.trace c.finish.new.self c.requires.bare (omega (arith, c.fill.ensures.same.1, c.loop-self.invariant.within.taken)) reads
    c.in_ok-finish.ensures.whole c.in_ok-finish.ensures.none in
    last_round_adds c.args.trace.now c.args.self.now last.0 c.finish.new.trace c.requires last.1

pub returns-then-branch-clause-tokens : goal.returns-then-branch-clause-tokens
returns-then-branch-clause-tokens g c =
    let told = g.I.Source.left c.args.src.now in
    let left = g.I.Source.left c.loop-self.src in
    let next = g.I.Source.left c.fill.new.src in
    let reads = on_filled c.args.trace.now c.args.self.now c.loop-self.trace c.loop-self.self told left next c.fill.new.self c.in_ok-fill.field-0 c.fill.ensures.same.0 c.fill.ensures.same.1 c.loop-self.invariant.reads c.in_ok-fill.ensures.filled in
    let taken = subst (HasTakenAhead c.loop-self.trace c.fill.new.self c.take_ahead.new.trace c.take_ahead.new.self) c.if-branch.true c.in_ok-take_ahead.ensures.taken in
    let round = round_alone c.args.trace.now c.args.self.now c.loop-self.trace c.fill.new.self told next c.take_ahead.new.trace c.take_ahead.new.self c.requires.bare c.in_ok-take_ahead.ensures.within.taken reads taken in
    omega (arith, round_few c.args.trace.now c.args.self.now round.0 c.take_ahead.new.trace c.take_ahead.new.self [] round.1, round.2)

pub returns-then-not-branch-clause-tokens : goal.returns-then-not-branch-clause-tokens
returns-then-not-branch-clause-tokens g c =
    let told = g.I.Source.left c.args.src.now in
    let left = g.I.Source.left c.loop-self.src in
    let next = g.I.Source.left c.fill.new.src in
    let reads = on_filled c.args.trace.now c.args.self.now c.loop-self.trace c.loop-self.self told left next c.fill.new.self c.in_ok-fill.field-0 c.fill.ensures.same.0 c.fill.ensures.same.1 c.loop-self.invariant.reads c.in_ok-fill.ensures.filled in
    let last = last_alone c.args.trace.now c.args.self.now c.loop-self.trace c.fill.new.self told next c.finish.new.trace c.finish.new.self c.requires.bare (omega (arith, c.fill.ensures.same.1, c.loop-self.invariant.within.taken)) reads
    c.in_ok-finish.ensures.whole c.in_ok-finish.ensures.none in
    omega (arith, last_few c.args.trace.now c.args.self.now last.0 c.finish.new.trace c.requires.bare last.1, last.2)
