use Rattle.nv_core.proofs.state.Places.{places_differ}
use Rattle.nv_core.proofs.invariant_laws.words_have_places_of_their_own.Goals as goal

pub returns : goal.returns
returns c = places_differ
