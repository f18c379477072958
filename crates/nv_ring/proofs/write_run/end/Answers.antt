-- It goes on with its call, step by step.
use Rattle.std.proofs.Common.{refl, ap, ◌∙◌}
use Rattle.std.specs.Prelude.{None}
use Rattle.nv_mirror.proofs.AskedLaws.{asked_then}
use Rattle.nv_mirror.specs.Releases.{release_call_of}
use Rattle.nv_ring.proofs.RunningLaws.{open_release, release_over}
use Rattle.nv_ring.proofs.write_run.end.Goals as goal

pub loop-release-init : goal.loop-release-init
loop-release-init g c = record {
  board = c.requires.board;
  asks = refl;
  way = λ call start before. (ap release_call_of c.release-release.ensures.machine ∙ before.0, c.release-release.ensures.way start c.args.pass.now before.1);
}

pub advance-requires : goal.advance-requires
advance-requires g c = record {
  board = c.loop-release.invariant.board;
  «open» = open_release c.loop-release.release.control c.in_default.not-Over;
  way = (c.requires.way.1, (c.loop-release.invariant.way c.requires.way.0 c.requires.way.1 c.requires.way.2).1);
}

pub loop-release-preserved : goal.loop-release-preserved
loop-release-preserved g c = record {
  board = c.advance.ensures.board;
  asks = asked_then None _ c.advance.ensures.one.0 c.loop-release.pass c.advance.new.pass c.advance.ensures.one.1 ∙ c.loop-release.invariant.asks;
  way = λ call start before.
      let way = c.loop-release.invariant.way call start before in
      (ap release_call_of c.advance.ensures.one.2 ∙ way.0, c.advance.ensures.way start way.1);
}

pub returns-in-Over-clause-way : goal.returns-in-Over-clause-way
returns-in-Over-clause-way g c call start before =
    release_over c.loop-release.release call start c.loop-release.pass c.in-Over.is (c.loop-release.invariant.way call start before)
