use Rattle.nv_trace.proofs.ReadFirst.{rounds_read_are_first}
use Rattle.nv_trace.proofs.laws.rounds_read_are_first.Goals as goal

pub returns : goal.returns
returns c = rounds_read_are_first
