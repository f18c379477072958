-- It goes on with its call, step by step.
use Rattle.std.proofs.Common.{sym, subst, ◌∙◌}
use Rattle.nv_mirror.proofs.AskedLaws.{asked_taken}
use Rattle.nv_ring.specs.Appends.{IsPlain}
use Rattle.nv_ring.proofs.RunningLaws.{append_goes}
use Rattle.nv_ring.proofs.write_run.make_ready.Goals as goal

pub step-requires : goal.step-requires
step-requires g c = record {
  board = c.loop-append.invariant.board;
  plain = subst IsPlain (sym c.in-ReadyEntry.is) tt;
  way = (c.requires.way.1, (c.loop-append.invariant.way c.requires.way.0 c.requires.way.1 c.requires.way.2).1);
}

pub loop-append-preserved : goal.loop-append-preserved
loop-append-preserved g c = record {
  board = c.step.ensures.board;
  asks = asked_taken c.step.ensures.one.step c.loop-append.pass c.step.new.pass c.step.ensures.one.opens c.step.ensures.one.taken ∙ c.loop-append.invariant.asks;
  way = λ call start before.
      let way = c.loop-append.invariant.way call start before in
      append_goes c.loop-append.append c.step.new.self c.loop-append.pass c.step.new.pass call start c.step.ensures.one way.0 (c.step.ensures.way start way.1);
}
