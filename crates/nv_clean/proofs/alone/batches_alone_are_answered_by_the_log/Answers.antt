use Rattle.nv_clean.proofs.AloneLaws.{batches_alone_are_answered}
use Rattle.nv_clean.proofs.alone.batches_alone_are_answered_by_the_log.Goals as goal

pub returns : goal.returns
returns c = batches_alone_are_answered c.runs_are_sound.ensures.runs c.passes_are_left_alone.ensures.own
