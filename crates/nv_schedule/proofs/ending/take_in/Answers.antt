use Rattle.nv_schedule.proofs.EndLaws.{join_takes}
use Rattle.nv_schedule.proofs.ending.take_in.Goals as goal

pub returns-clause-zero : goal.returns-clause-zero
returns-clause-zero g c = join_takes c.args.mount.now c.args.zero.now c.args.other c.join_pass.new.pass c.requires.zero c.join_pass.ensures.taken
