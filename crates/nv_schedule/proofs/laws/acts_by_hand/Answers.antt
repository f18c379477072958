use Rattle.nv_schedule.proofs.turns.HandActs.{acts_by_hand}
use Rattle.nv_schedule.proofs.laws.acts_by_hand.Goals as goal

pub returns : goal.returns
returns c = acts_by_hand
