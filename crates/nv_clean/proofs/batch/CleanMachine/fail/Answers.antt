-- STOP is set behind the call that failed.
use Rattle.nv_clean.proofs.WriteLaws.{fail_one}
use Rattle.nv_clean.proofs.batch.CleanMachine.fail.Goals as goal

pub returns-clause-one : goal.returns-clause-one
returns-clause-one g c start was behind =
    fail_one c.args.self.now c.args.at c.requires.at c.requires.group c.args.refusal c.requires.fault c.args.board.now.opened.sizes c.stop_behind.new.self was c.stop_behind.new.pass
    (c.stop_behind.ensures.one start was behind) c.stop_behind.ensures.refusal
