use Rattle.nv_calls.proofs.writes.RefusalLaws.{made_writes_meet_nobody, writes_alone_meet_nobody}
use Rattle.nv_calls.proofs.alone.a_write_alone_meets_nobody.Goals as goal

pub returns : goal.returns
returns c =
    let sound = c.runs_are_sound.ensures.runs in
    let tell = c.passes_are_left_alone.ensures.own in
    record { made = made_writes_meet_nobody sound tell; writes = writes_alone_meet_nobody sound tell }
