use Rattle.nv_core.proofs.steps.FrameLaws.{events_leave_others, own_events_tell}
use Rattle.nv_core.proofs.steps.OwnedLaws.{passes_see_their_owned}
use Rattle.nv_core.proofs.steps.Inherits.{newcomers_cover}
use Rattle.nv_core.proofs.state.StepWords.{steps_are_on_words}
use Rattle.nv_core.proofs.frame_laws.passes_are_left_alone.Goals as goal

pub returns-clause-others : goal.returns-clause-others
returns-clause-others c = events_leave_others

pub returns-clause-owned : goal.returns-clause-owned
returns-clause-owned c = passes_see_their_owned

pub returns-clause-words : goal.returns-clause-words
returns-clause-words c = steps_are_on_words c.runs_are_sound.ensures.opening c.runs_are_sound.ensures.events

pub returns-clause-own : goal.returns-clause-own
returns-clause-own c = own_events_tell c.runs_are_sound.ensures.events c.runs_are_sound.ensures.runs

pub returns-clause-newcomers : goal.returns-clause-newcomers
returns-clause-newcomers c = newcomers_cover
