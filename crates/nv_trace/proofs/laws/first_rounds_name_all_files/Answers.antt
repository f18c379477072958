use Rattle.nv_trace.proofs.FirstRounds.{first_rounds_name_all}
use Rattle.nv_trace.proofs.laws.first_rounds_name_all_files.Goals as goal

pub returns : goal.returns
returns c = first_rounds_name_all
