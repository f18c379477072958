use Rattle.nv_core.proofs.log.FittingLaws.{held_pieces_fit}
use Rattle.nv_core.proofs.fitting_laws.held_pieces_fit.Goals as goal

pub returns : goal.returns
returns c = held_pieces_fit c.runs_are_sound.ensures.runs c.ready_pieces_fit.ensures
