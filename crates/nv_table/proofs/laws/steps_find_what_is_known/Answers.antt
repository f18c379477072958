use Rattle.nv_table.proofs.passes.KnownLaws.{steps_find_what_is_known, steps_forget_nothing}
use Rattle.nv_table.proofs.laws.steps_find_what_is_known.Goals as goal

pub returns-clause-finds : goal.returns-clause-finds
returns-clause-finds c = steps_find_what_is_known c.runs_are_sound.ensures.runs c.passes_are_left_alone.ensures.own

pub returns-clause-keeps : goal.returns-clause-keeps
returns-clause-keeps c = steps_forget_nothing c.runs_are_sound.ensures.runs c.passes_are_left_alone.ensures.own
