-- It may begin on an idle pass.
use Rattle.nv_mirror.proofs.PagelessLaws.{pageless_begins}
use Rattle.nv_mirror.proofs.pageless.PagelessMachine.new.Goals as goal

pub returns-clause-begins : goal.returns-clause-begins
returns-clause-begins c pass idle allowed = (record { allowed = allowed; none = c.requires.none }, pageless_begins c.args.asked pass c.requires.none idle)
