use Rattle.nv_calls.proofs.histories.FaultLaws.{made_reads_open_nothing, made_writes_open, reads_open_nothing, syncs_open_nothing, writes_open}
use Rattle.nv_calls.proofs.laws.faults_open_writes.Goals as goal

pub returns : goal.returns
returns c =
    let sound = c.runs_are_sound.ensures.runs in
    let tell = c.passes_are_left_alone.ensures.own in
    record { made_writes = made_writes_open sound tell; made_reads = made_reads_open_nothing sound tell; writes = writes_open sound tell; reads = reads_open_nothing sound tell; syncs = syncs_open_nothing }
