use Rattle.nv_core.proofs.state.SparesLaws.{spares_keep_steps, spares_tell}
use Rattle.nv_core.proofs.invariant_laws.spares_tell_the_room.Goals as goal

pub returns : goal.returns
returns c = record { steps = spares_keep_steps; room = spares_tell }
