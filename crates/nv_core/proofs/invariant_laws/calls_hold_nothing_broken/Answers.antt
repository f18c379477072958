use Rattle.nv_core.proofs.invariant.GoingBackLaws.{calls_hold_nothing_broken}
use Rattle.nv_core.proofs.invariant_laws.calls_hold_nothing_broken.Goals as goal

pub returns : goal.returns
returns c = calls_hold_nothing_broken c.runs_are_sound.ensures.opening c.runs_are_sound.ensures.events
