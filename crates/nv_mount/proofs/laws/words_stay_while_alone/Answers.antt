use Rattle.nv_mount.proofs.LoneWordLaws.{steps_tell_their_word, other_words_stay}
use Rattle.nv_mount.proofs.laws.words_stay_while_alone.Goals as goal

pub returns-clause-own : goal.returns-clause-own
returns-clause-own c = steps_tell_their_word c.runs_are_sound.ensures.runs c.passes_are_left_alone.ensures.own

pub returns-clause-others : goal.returns-clause-others
returns-clause-others c = other_words_stay c.runs_are_sound.ensures.runs c.passes_are_left_alone.ensures.own
