use Rattle.nv_top.proofs.AcceptedLemmas.{next_is_accepted, what_is_made_is_good}
use Rattle.nv_top.proofs.laws.a_region_stays_accepted.Goals as goal

pub returns : goal.returns
returns c = record { next = next_is_accepted c.images_follow_calls.ensures.quiet c.power_leaves_an_image.ensures; made = what_is_made_is_good }
