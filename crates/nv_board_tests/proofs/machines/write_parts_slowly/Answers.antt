-- The write goes on by its advances, and leaves its pass idle at the end.
use Rattle.std.proofs.Common.{length, sym, ◌∙◌}
use Rattle.std.specs.List.{concat}
use Rattle.nv_calls.specs.calls.Asks.{asks_writev}
use Rattle.nv_calls.proofs.writes.OverLaws.{fewer_now, leaves_idle_as, under_way_as}
use Rattle.nv_board_tests.proofs.machines.write_parts_slowly.Goals as goal

pub loop-result-init : goal.loop-result-init
loop-result-init c = record { board = c.requires.board; since = λ start way. way; workspace = c.requires.workspace; bare = c.requires.bare }

pub advance_parts-requires-clause-under_way : goal.advance_parts-requires-clause-under_way
advance_parts-requires-clause-under_way c = (c.requires.way.0, c.loop-result.invariant.since c.requires.way.0 c.requires.way.2)

pub returns-in-Ended-clause-idle : goal.returns-in-Ended-clause-idle
returns-in-Ended-clause-idle c =
    let start = c.requires.way.0 in
    (leaves_idle_as (asks_writev c.advance_parts.new.self.at c.args.parts.now) c.args.mount.now.fds c.advance_parts.new.self.fd c.advance_parts.new.self.at (length (concat c.args.parts.now)) start c.advance_parts.new.pass c.in-Ended.result c.requires.way.1
    (c.in-Ended.ensures.goes start (c.loop-result.invariant.since start c.requires.way.2)).2).0

pub returns-in-Ended-clause-later : goal.returns-in-Ended-clause-later
returns-in-Ended-clause-later c start idle way =
    (leaves_idle_as (asks_writev c.advance_parts.new.self.at c.args.parts.now) c.args.mount.now.fds c.advance_parts.new.self.fd c.advance_parts.new.self.at (length (concat c.args.parts.now)) start c.advance_parts.new.pass c.in-Ended.result idle
    (c.in-Ended.ensures.goes start (c.loop-result.invariant.since start way)).2).1

pub loop-result-preserved : goal.loop-result-preserved
loop-result-preserved c = record {
  board = c.advance_parts.ensures.board;
  since = λ start way.
      under_way_as (asks_writev c.advance_parts.new.self.at c.args.parts.now) c.args.mount.now.fds start c.advance_parts.new.self (concat c.args.parts.now) c.advance_parts.new.pass c.advance_parts.result c.in_default.not-Ended
      (c.advance_parts.ensures.goes start (c.loop-result.invariant.since start way));
  workspace = c.advance_parts.ensures.workspace;
  bare = c.advance_parts.ensures.bare;
}

pub loop-result-smaller : goal.loop-result-smaller
loop-result-smaller c =
    fewer_now c.loop-result.pass c.advance_parts.new.pass c.loop-result.write c.advance_parts.new.self c.advance_parts.result c.in_default.not-Ended
    (c.advance_parts.ensures.board.same_mount ∙ sym c.loop-result.invariant.board.same_mount) c.advance_parts.ensures.fewer
