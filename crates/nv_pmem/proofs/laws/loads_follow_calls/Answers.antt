use Rattle.nv_pmem.proofs.LineLaws.{stored_is_loaded, kept_by_steps, length-after_steps}
use Rattle.nv_pmem.proofs.RowLaws.{word_of-blank}
use Rattle.nv_pmem.proofs.laws.loads_follow_calls.Goals as goal

pub returns : goal.returns
returns c = record { stored = stored_is_loaded; kept = kept_by_steps; lines = length-after_steps; blank = word_of-blank }
