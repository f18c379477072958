-- It goes on with its call, step by step, and then with its append.
use Rattle.std.proofs.Common.{sym, ap, subst, ◌∙◌}
use Rattle.std.specs.Prelude.{None}
use Rattle.nv_core.specs.state.Passes.{is_write, plain_call}
use Rattle.nv_core.specs.state.Words.{Sizes}
use Rattle.nv_table.specs.state.Opened.{Opened}
use Rattle.nv_op.specs.Ops.{call_asked}
use Rattle.nv_mirror.proofs.AskedLaws.{asked_then}
use Rattle.nv_mirror.specs.declared.front.FrontMachine.{FrontMachine}
use Rattle.nv_ring.specs.Appends.{append_call_of}
use Rattle.nv_ring.specs.Draws.{Fits, append_of}
use Rattle.nv_ring.proofs.RunningLaws.{draw_goes, open_draw, writes_some}
use Rattle.nv_ring.proofs.write_run.pass_draw.Goals as goal

pub advance-requires : goal.advance-requires
advance-requires g c = record {
  board = c.loop-draw.invariant.board;
  «open» = open_draw c.loop-draw.draw.control c.in_default.not-Drawn c.in_default.not-Refused;
  way = (c.requires.way.0, (c.loop-draw.invariant.way (plain_call g.A.Asks.call) c.requires.way.0 c.requires.way.1).1);
}

pub loop-draw-preserved : goal.loop-draw-preserved
loop-draw-preserved g c = record {
  board = c.advance.ensures.board;
  bare = c.loop-draw.invariant.bare;
  places = c.loop-draw.invariant.places;
  asks = asked_then None _ c.advance.ensures.one.0 c.loop-draw.pass c.advance.new.pass c.advance.ensures.one.1 ∙ c.loop-draw.invariant.asks;
  way = λ call start before.
      let way = c.loop-draw.invariant.way call start before in
      draw_goes c.loop-draw.pass.view.opened.sizes c.loop-draw.draw c.advance.new.self c.advance.ensures.one.0 call start c.advance.new.pass c.advance.ensures.one.2 way.0 (c.advance.ensures.way start way.1);
}

-- ---- it has its numbers

pub pass_append-requires-clause-way : goal.pass_append-requires-clause-way
pass_append-requires-clause-way g c =
    let start = c.requires.way.0 in
    let way = c.loop-draw.invariant.way (plain_call g.A.Asks.call) start c.requires.way.1 in
    (start, (ap append_call_of c.append.ensures.machine ∙ way.0, c.append.ensures.way start c.loop-draw.pass way.1))

pub returns-in-Drawn-clause-way : goal.returns-in-Drawn-clause-way
returns-in-Drawn-clause-way g c call start before =
    let way = c.loop-draw.invariant.way call start before in
    c.pass_append.ensures.way call start (ap append_call_of c.append.ensures.machine ∙ way.0, c.append.ensures.way start c.loop-draw.pass way.1)

-- ---- it is refused

pub give_back-back-requires-clause-fits : goal.give_back-back-requires-clause-fits
give_back-back-requires-clause-fits g c =
    let way = c.loop-draw.invariant.way (plain_call g.A.Asks.call) c.requires.way.0 c.requires.way.1 in
    subst (λ (s : Sizes). Fits s c.loop-draw.draw) (ap (λ (o : Opened). o.sizes) c.loop-draw.invariant.board.same_mount ∙ sym c.layout.ensures) way.1.0

pub write_on-requires-clause-way : goal.write_on-requires-clause-way
write_on-requires-clause-way g c =
    let start = c.requires.way.0 in
    let way = c.loop-draw.invariant.way (plain_call g.A.Asks.call) start c.requires.way.1 in
    let machine = c.give_back-back.ensures.machine.2 in (
      start,
      (
        ap (λ (f : FrontMachine). call_asked f.asked) machine ∙ way.0,
        ap (λ (f : FrontMachine). is_write (call_asked f.asked)) machine ∙ writes_some (append_of c.loop-draw.draw) way.1.0.write.some,
        c.give_back-back.ensures.way start c.loop-draw.pass way.1,
      ),
    )

pub returns-in-Refused-clause-way : goal.returns-in-Refused-clause-way
returns-in-Refused-clause-way g c call start before =
    let way = c.loop-draw.invariant.way call start before in
    let machine = c.give_back-back.ensures.machine.2 in
    c.write_on.ensures.way call start (
      ap (λ (f : FrontMachine). call_asked f.asked) machine ∙ way.0,
      ap (λ (f : FrontMachine). is_write (call_asked f.asked)) machine ∙ writes_some (append_of c.loop-draw.draw) way.1.0.write.some,
      c.give_back-back.ensures.way start c.loop-draw.pass way.1,
    )
