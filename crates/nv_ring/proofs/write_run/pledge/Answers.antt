-- It goes on with its call, step by step.
use Rattle.std.proofs.Common.{◌∙◌}
use Rattle.nv_mirror.proofs.AskedLaws.{asked_taken}
use Rattle.nv_ring.proofs.RunningLaws.{append_goes}
use Rattle.nv_ring.proofs.write_run.pledge.Goals as goal

pub commit-requires-clause-way : goal.commit-requires-clause-way
commit-requires-clause-way g c = (c.requires.way.1, c.requires.way.2.1)

pub loop-append-init : goal.loop-append-init
loop-append-init g c = record {
  board = c.commit.ensures.board;
  bare = c.commit.ensures.bare;
  places = c.commit.ensures.places;
  asks = asked_taken c.commit.ensures.one.step c.args.pass.now c.commit.new.pass c.commit.ensures.one.opens c.commit.ensures.one.taken;
  way = λ call start before. append_goes c.args.append.now c.commit.new.self c.args.pass.now c.commit.new.pass call start c.commit.ensures.one before.0 (c.commit.ensures.way start before.1);
}

pub pledge-requires : goal.pledge-requires
pledge-requires g c = record {
  board = c.loop-append.invariant.board;
  at = c.in-PledgePage.is;
  way = (c.requires.way.1, (c.loop-append.invariant.way c.requires.way.0 c.requires.way.1 c.requires.way.2).1);
}

pub loop-append-preserved : goal.loop-append-preserved
loop-append-preserved g c = record {
  board = c.pledge.ensures.board;
  bare = c.loop-append.invariant.bare;
  places = c.loop-append.invariant.places;
  asks = asked_taken c.pledge.ensures.one.step c.loop-append.pass c.pledge.new.pass c.pledge.ensures.one.opens c.pledge.ensures.one.taken ∙ c.loop-append.invariant.asks;
  way = λ call start before.
      let way = c.loop-append.invariant.way call start before in
      append_goes c.loop-append.append c.pledge.new.self c.loop-append.pass c.pledge.new.pass call start c.pledge.ensures.one way.0 (c.pledge.ensures.way start way.1);
}
