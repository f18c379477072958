-- The read goes on by its advances, and leaves its pass idle at the end.
use Rattle.std.proofs.Common.{sym, ◌∙◌}
use Rattle.nv_calls.specs.calls.Asks.{asks_readv}
use Rattle.nv_calls.proofs.reads.OverLaws.{fewer, goes_on_as, over_told_as}
use Rattle.nv_board_tests.proofs.machines.read_parts_slowly.Goals as goal

pub loop-result-init : goal.loop-result-init
loop-result-init c = record { board = c.requires.board; since = λ start way. way }

pub advance_parts-requires-clause-under_way : goal.advance_parts-requires-clause-under_way
advance_parts-requires-clause-under_way c = (c.requires.way.0, c.loop-result.invariant.since c.requires.way.0 c.requires.way.2)

pub returns-in-Ended-clause-idle : goal.returns-in-Ended-clause-idle
returns-in-Ended-clause-idle c =
    let start = c.requires.way.0 in
    (over_told_as (asks_readv c.advance_parts.new.self.at c.advance_parts.new.parts.lens) c.args.mount.now.fds c.advance_parts.new.self.fd c.advance_parts.new.self.at c.advance_parts.new.parts.list start c.advance_parts.new.pass c.in-Ended.result c.requires.way.1
    (c.in-Ended.ensures.goes start (c.loop-result.invariant.since start c.requires.way.2)).2).idle

pub returns-in-Ended-clause-later : goal.returns-in-Ended-clause-later
returns-in-Ended-clause-later c start idle way =
    (over_told_as (asks_readv c.advance_parts.new.self.at c.advance_parts.new.parts.lens) c.args.mount.now.fds c.advance_parts.new.self.fd c.advance_parts.new.self.at c.advance_parts.new.parts.list start c.advance_parts.new.pass c.in-Ended.result idle
    (c.in-Ended.ensures.goes start (c.loop-result.invariant.since start way)).2).later

pub loop-result-preserved : goal.loop-result-preserved
loop-result-preserved c = record {
  board = c.advance_parts.ensures.board;
  since = λ start way.
      goes_on_as (asks_readv c.advance_parts.new.self.at c.advance_parts.new.parts.lens) c.args.mount.now.fds start c.advance_parts.new.self c.advance_parts.new.parts.list c.advance_parts.new.pass c.advance_parts.result c.in_default.not-Ended
      (c.advance_parts.ensures.goes start (c.loop-result.invariant.since start way));
}

pub loop-result-smaller : goal.loop-result-smaller
loop-result-smaller c =
    fewer c.loop-result.pass c.advance_parts.new.pass c.loop-result.read c.advance_parts.new.self c.advance_parts.result c.in_default.not-Ended
    (c.advance_parts.ensures.board.same_mount ∙ sym c.loop-result.invariant.board.same_mount) c.advance_parts.ensures.less
