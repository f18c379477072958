use Rattle.nv_core.proofs.crash.AtRestLaws.{regions_at_rest_open}
use Rattle.nv_core.proofs.crash_laws.regions_at_rest_open.Goals as goal

pub returns : goal.returns
returns c = regions_at_rest_open c.images_follow_calls.ensures.now
