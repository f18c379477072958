use Rattle.nv_calls.proofs.histories.UnmovedLaws.{made_writes_leave_words, refused_writes_leave_words}
use Rattle.nv_calls.proofs.laws.refused_writes_leave_words.Goals as goal

pub returns : goal.returns
returns c =
    let sound = c.runs_are_sound.ensures.runs in
    let tell = c.passes_are_left_alone.ensures.own in
    record { made = made_writes_leave_words sound tell; writes = refused_writes_leave_words sound tell }
