-- It goes on with its call, step by step, and then with a look at its pages.
use Rattle.std.proofs.Common.{◌<◌, [], length, sym, ap, subst, ◌∙◌}
use Rattle.std.proofs.lemmas.Bool.{lt-ltb}
use Rattle.nv_core.specs.state.Passes.{is_read, len_of, plain_call}
use Rattle.nv_core.specs.state.Words.{Sizes}
use Rattle.nv_table.specs.state.Opened.{Opened}
use Rattle.nv_op.specs.Ops.{call_asked}
use Rattle.nv_mirror.specs.Fronts.{Fits, has_begun}
use Rattle.nv_mirror.specs.Controls.{asked_at}
use Rattle.nv_mirror.proofs.AskedLaws.{front_asks}
use Rattle.nv_cache.specs.declared.read.RunningRead.TheVariants.{Over}
use Rattle.nv_cache.specs.RunningReads.{IsUnderWay}
use Rattle.nv_cache.proofs.RunningLaws.{front_goes, front_over, open_front}
use Rattle.nv_cache.proofs.read_run.pass_front.Goals as goal

pub advance-requires : goal.advance-requires
advance-requires g c = record {
  board = c.loop-front.invariant.board;
  «open» = open_front c.loop-front.front.control c.in_default.not-Passed c.in_default.not-Over;
  makes = sym (c.loop-front.invariant.way (plain_call g.A.Asks.call) c.requires.way.0 c.requires.way.1).stands.0;
  way = (c.requires.way.0, (c.loop-front.invariant.way (plain_call g.A.Asks.call) c.requires.way.0 c.requires.way.1).stands.1);
}

pub loop-front-preserved : goal.loop-front-preserved
loop-front-preserved g c = record {
  board = c.advance.ensures.board;
  asks = front_asks g.A.Asks.call c.loop-front.front c.advance.new.self _ c.advance.ensures.one.0 c.loop-front.pass c.advance.new.pass (open_front c.loop-front.front.control c.in_default.not-Passed c.in_default.not-Over)
      c.advance.ensures.one.1 c.advance.ensures.one.2
      ∙ c.loop-front.invariant.asks;
  way = λ call start before.
      front_goes c.loop-front.front c.advance.new.self c.advance.ensures.one.0 call c.loop-front.list [] [] start c.loop-front.pass c.advance.new.pass c.advance.ensures.one.2
      (c.advance.ensures.way start) (c.loop-front.invariant.way call start before);
}

pub visit-visit-requires-clause-fits : goal.visit-visit-requires-clause-fits
visit-visit-requires-clause-fits g c =
    let way = c.loop-front.invariant.way (plain_call g.A.Asks.call) c.requires.way.0 c.requires.way.1 in
    subst (λ (s : Sizes). Fits s c.loop-front.front) (ap (λ (o : Opened). o.sizes) c.loop-front.invariant.board.same_mount ∙ sym c.layout.ensures) way.stands.1.0

pub visit-visit-requires-clause-read : goal.visit-visit-requires-clause-read
visit-visit-requires-clause-read g c =
    let way = c.loop-front.invariant.way (plain_call g.A.Asks.call) c.requires.way.0 c.requires.way.1 in
    let is = way.stands.0 ∙ way.asks in
    ap is_read is ∙ lt-ltb 0 (length c.loop-front.list) (subst (λ call. 0 < len_of call) is way.stands.1.0.some)

pub pass_pages-requires-clause-way : goal.pass_pages-requires-clause-way
pass_pages-requires-clause-way g c =
    let start = c.requires.way.0 in
    let way = c.loop-front.invariant.way (plain_call g.A.Asks.call) start c.requires.way.1 in
    (start, c.visit-visit.ensures.way c.loop-front.list start c.loop-front.pass (sym (ap len_of (way.stands.0 ∙ way.asks))) way.stands.1)

pub returns-in-Passed-clause-way : goal.returns-in-Passed-clause-way
returns-in-Passed-clause-way g c call start before =
    let way = c.loop-front.invariant.way call start before in
    subst (λ call. IsUnderWay call (Over c.pass_pages.result) c.pass_pages.new.list [] start c.pass_pages.new.pass) (ap call_asked c.visit-visit.ensures.asked ∙ way.stands.0)
    (c.pass_pages.ensures.way start (c.visit-visit.ensures.way c.loop-front.list start c.loop-front.pass (sym (ap len_of (way.stands.0 ∙ way.asks))) way.stands.1))

pub returns-in-Over-clause-way : goal.returns-in-Over-clause-way
returns-in-Over-clause-way g c call start before =
    front_over c.loop-front.front c.in-Over.refusal call c.loop-front.list [] start c.loop-front.pass c.in-Over.is (c.loop-front.invariant.way call start before)

-- ---- what it is asked as

pub pass_pages-requires-clause-makes : goal.pass_pages-requires-clause-makes
pass_pages-requires-clause-makes g c =
    let way = c.loop-front.invariant.way (plain_call g.A.Asks.call) c.requires.way.0 c.requires.way.1 in
    sym (ap call_asked c.visit-visit.ensures.asked ∙ way.stands.0)

pub returns-in-Passed-clause-asks : goal.returns-in-Passed-clause-asks
returns-in-Passed-clause-asks g c =
    c.pass_pages.ensures.asks ∙ sym (ap (λ control. asked_at g.A.Asks.call (has_begun control) c.loop-front.pass) c.in-Passed.is) ∙ c.loop-front.invariant.asks

pub returns-in-Over-clause-asks : goal.returns-in-Over-clause-asks
returns-in-Over-clause-asks g c = sym (ap (λ control. asked_at g.A.Asks.call (has_begun control) c.loop-front.pass) c.in-Over.is) ∙ c.loop-front.invariant.asks
