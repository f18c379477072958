-- The read goes on by its advances, and leaves its pass idle at the end.
use Rattle.std.proofs.Common.{sym, ◌∙◌}
use Rattle.nv_calls.proofs.reads.OverLaws.{over_told, goes_on, fewer}
use Rattle.nv_board_tests.proofs.machines.read_slowly.Goals as goal

pub loop-result-init : goal.loop-result-init
loop-result-init g c = record { board = c.requires.board; since = λ start way. way }

pub advance-requires-clause-under_way : goal.advance-requires-clause-under_way
advance-requires-clause-under_way g c = (c.requires.way.0, c.loop-result.invariant.since c.requires.way.0 c.requires.way.2)

pub returns-in-Ended-clause-idle : goal.returns-in-Ended-clause-idle
returns-in-Ended-clause-idle g c =
    let start = c.requires.way.0 in
    (over_told c.args.mount.now.fds c.advance.new.self.fd c.advance.new.self.at c.advance.new.list start c.advance.new.pass c.in-Ended.result c.requires.way.1
    (c.in-Ended.ensures.goes start (c.loop-result.invariant.since start c.requires.way.2)).2).idle

pub returns-in-Ended-clause-later : goal.returns-in-Ended-clause-later
returns-in-Ended-clause-later g c start idle way =
    (over_told c.args.mount.now.fds c.advance.new.self.fd c.advance.new.self.at c.advance.new.list start c.advance.new.pass c.in-Ended.result idle
    (c.in-Ended.ensures.goes start (c.loop-result.invariant.since start way)).2).later

pub loop-result-preserved : goal.loop-result-preserved
loop-result-preserved g c = record {
  board = c.advance.ensures.board;
  since = λ start way.
      goes_on c.args.mount.now.fds start c.advance.new.self c.advance.new.list c.advance.new.pass c.advance.result c.in_default.not-Ended
      (c.advance.ensures.goes start (c.loop-result.invariant.since start way));
}

pub loop-result-smaller : goal.loop-result-smaller
loop-result-smaller g c =
    fewer c.loop-result.pass c.advance.new.pass c.loop-result.read c.advance.new.self c.advance.result c.in_default.not-Ended
    (c.advance.ensures.board.same_mount ∙ sym c.loop-result.invariant.board.same_mount) c.advance.ensures.less
