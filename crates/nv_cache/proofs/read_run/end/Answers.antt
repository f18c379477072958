-- It goes on with its call, step by step.
use Rattle.std.proofs.Common.{[], ◌∙◌}
use Rattle.std.specs.Prelude.{None}
use Rattle.nv_mirror.proofs.AskedLaws.{asked_then}
use Rattle.nv_cache.proofs.RunningLaws.{open_release, place_goes, release_goes, release_over}
use Rattle.nv_cache.proofs.read_run.end.Goals as goal

pub loop-release-init : goal.loop-release-init
loop-release-init g c = record {
  board = c.take_place-release.ensures.board;
  asks = asked_then None _ c.take_place-release.ensures.one.0 c.args.pass.now c.take_place-release.new.pass c.take_place-release.ensures.one.1;
  way = λ call list start before.
      place_goes c.args.visit c.take_place-release.result c.take_place-release.ensures.one.0 call list [] [] start c.args.pass.now c.take_place-release.new.pass c.take_place-release.ensures.one.2
      (c.take_place-release.ensures.way list start before.stands.2) (c.take_place-release.ensures.placed list start before.stands.2) before;
}

pub advance-requires : goal.advance-requires
advance-requires g c = record {
  board = c.loop-release.invariant.board;
  «open» = open_release c.loop-release.release.control c.in_default.not-Over;
  way = (c.requires.way.2, (c.loop-release.invariant.way c.requires.way.0 c.requires.way.1 c.requires.way.2 c.requires.way.3).stands.1);
}

pub loop-release-preserved : goal.loop-release-preserved
loop-release-preserved g c = record {
  board = c.advance.ensures.board;
  asks = asked_then None _ c.advance.ensures.one.0 c.loop-release.pass c.advance.new.pass c.advance.ensures.one.1 ∙ c.loop-release.invariant.asks;
  way = λ call list start before.
      release_goes c.loop-release.release c.advance.new.self c.args.visit.copied c.advance.ensures.one.0 call list [] [] start c.loop-release.pass c.advance.new.pass
      (open_release c.loop-release.release.control c.in_default.not-Over) c.advance.ensures.one.1 c.advance.ensures.one.2 (c.advance.ensures.way start) (c.loop-release.invariant.way call list start before);
}

pub returns-in-Over-clause-way : goal.returns-in-Over-clause-way
returns-in-Over-clause-way g c call list start before =
    release_over c.loop-release.release c.args.visit.copied call list [] start c.loop-release.pass c.in-Over.is (c.loop-release.invariant.way call list start before)
