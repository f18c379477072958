use Rattle.nv_top.proofs.LoadLemmas.{new_benches_fresh}
use Rattle.nv_top.proofs.UnhinderedLemmas.{nothing_is_a_trace, plain_is_unhindered}
use Rattle.nv_top.proofs.laws.a_plain_command_is_unhindered.Goals as goal

pub returns : goal.returns
returns c = record { plain = plain_is_unhindered; empty = nothing_is_a_trace; fresh = new_benches_fresh }
