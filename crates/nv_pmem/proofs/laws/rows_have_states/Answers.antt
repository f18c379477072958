use Rattle.nv_pmem.proofs.RowStateLaws.{rows_have_states, rows_have_one_state, each_part_has_one}
use Rattle.nv_pmem.proofs.laws.rows_have_states.Goals as goal

pub returns : goal.returns
returns c = record { some = rows_have_states; one = rows_have_one_state; each = each_part_has_one }
