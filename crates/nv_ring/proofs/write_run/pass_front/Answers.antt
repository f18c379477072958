-- It goes on with its call, step by step, and then with its draw.
use Rattle.std.proofs.Common.{sym, ap, subst, ◌∙◌}
use Rattle.nv_core.specs.state.Passes.{plain_call}
use Rattle.nv_core.specs.state.Words.{Sizes}
use Rattle.nv_table.specs.state.Opened.{Opened}
use Rattle.nv_op.specs.Ops.{call_asked}
use Rattle.nv_mirror.specs.Controls.{asked_at}
use Rattle.nv_mirror.specs.Fronts.{Fits, has_begun}
use Rattle.nv_mirror.proofs.AskedLaws.{front_asks}
use Rattle.nv_ring.proofs.RunningLaws.{front_goes, front_over, open_front}
use Rattle.nv_ring.proofs.write_run.pass_front.Goals as goal

pub advance-requires : goal.advance-requires
advance-requires g c =
    let way = c.loop-front.invariant.way (plain_call g.A.Asks.call) c.requires.way.0 c.requires.way.1 in record {
      board = c.loop-front.invariant.board;
      «open» = open_front c.loop-front.front.control c.in_default.not-Passed c.in_default.not-Over;
      makes = sym way.0;
      way = (c.requires.way.0, way.2);
    }

pub loop-front-preserved : goal.loop-front-preserved
loop-front-preserved g c = record {
  board = c.advance.ensures.board;
  bare = c.loop-front.invariant.bare;
  places = c.loop-front.invariant.places;
  asks = front_asks g.A.Asks.call c.loop-front.front c.advance.new.self _ c.advance.ensures.one.0 c.loop-front.pass c.advance.new.pass (open_front c.loop-front.front.control c.in_default.not-Passed c.in_default.not-Over)
      c.advance.ensures.one.1 c.advance.ensures.one.2
      ∙ c.loop-front.invariant.asks;
  way = λ call start before.
      let way = c.loop-front.invariant.way call start before in
      front_goes c.loop-front.pass.view.opened.sizes c.loop-front.front c.advance.new.self c.advance.ensures.one.0 call start c.advance.new.pass c.advance.ensures.one.2 way.0 way.1 (c.advance.ensures.way start way.2);
}

pub behind-draw-requires : goal.behind-draw-requires
behind-draw-requires g c =
    let way = c.loop-front.invariant.way (plain_call g.A.Asks.call) c.requires.way.0 c.requires.way.1 in record {
      passed = c.in-Passed.is;
      fits = subst (λ (s : Sizes). Fits s c.loop-front.front) (ap (λ (o : Opened). o.sizes) c.loop-front.invariant.board.same_mount ∙ sym c.layout.ensures) way.2.0;
      write = way.1;
    }

pub pass_draw-requires-clause-way : goal.pass_draw-requires-clause-way
pass_draw-requires-clause-way g c =
    let start = c.requires.way.0 in
    let way = c.loop-front.invariant.way (plain_call g.A.Asks.call) start c.requires.way.1 in
    (start, (ap call_asked c.behind-draw.ensures.asked ∙ way.0, c.behind-draw.ensures.way start c.loop-front.pass way.2))

pub returns-in-Passed-clause-way : goal.returns-in-Passed-clause-way
returns-in-Passed-clause-way g c call start before =
    let way = c.loop-front.invariant.way call start before in
    c.pass_draw.ensures.way call start (ap call_asked c.behind-draw.ensures.asked ∙ way.0, c.behind-draw.ensures.way start c.loop-front.pass way.2)

pub returns-in-Over-clause-way : goal.returns-in-Over-clause-way
returns-in-Over-clause-way g c call start before =
    front_over c.loop-front.front c.in-Over.refusal call start c.loop-front.pass c.in-Over.is (c.loop-front.invariant.way call start before)

-- ---- what it is asked as

pub returns-in-Passed-clause-asks : goal.returns-in-Passed-clause-asks
returns-in-Passed-clause-asks g c =
    c.pass_draw.ensures.asks ∙ sym (ap (λ control. asked_at g.A.Asks.call (has_begun control) c.loop-front.pass) c.in-Passed.is) ∙ c.loop-front.invariant.asks

pub returns-in-Over-clause-asks : goal.returns-in-Over-clause-asks
returns-in-Over-clause-asks g c = sym (ap (λ control. asked_at g.A.Asks.call (has_begun control) c.loop-front.pass) c.in-Over.is) ∙ c.loop-front.invariant.asks
