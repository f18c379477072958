use Rattle.nv_table.proofs.passes.AloneAgain.{alone_on, alone_again}
use Rattle.nv_table.proofs.laws.a_pass_is_alone_again.Goals as goal

pub returns-clause-calls : goal.returns-clause-calls
returns-clause-calls c = alone_on

pub returns-clause-join : goal.returns-clause-join
returns-clause-join c = alone_again
