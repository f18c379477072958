-- It goes on behind the write.
use Rattle.nv_clean.proofs.WriteLaws.{hold_behind, hold_one}
use Rattle.nv_clean.proofs.batch.CleanMachine.hold_next.Goals as goal

pub returns-clause-one : goal.returns-clause-one
returns-clause-one g c start was behind =
    hold_one c.args.self.now c.args.at c.requires.at c.requires.group c.each.new.self c.each.ensures c.args.board.now.opened.sizes c.step_behind.new.self was c.step_behind.new.pass
    (c.step_behind.ensures.one start was (hold_behind c.args.self.now c.args.at c.requires.at c.requires.group c.each.new.self c.each.ensures start was c.args.pass.now behind)) c.step_behind.ensures.refusal

pub returns-clause-way : goal.returns-clause-way
returns-clause-way g c start was behind = c.step_behind.ensures.way start was (hold_behind c.args.self.now c.args.at c.requires.at c.requires.group c.each.new.self c.each.ensures start was c.args.pass.now behind)
