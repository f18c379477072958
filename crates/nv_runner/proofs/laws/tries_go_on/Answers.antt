-- By their steps, try after try.
use Rattle.nv_runner.proofs.TryLaws.{batches_go_on, reads_go_on, syncs_go_on, writes_go_on}
use Rattle.nv_runner.proofs.laws.tries_go_on.Goals as goal

pub returns : goal.returns
returns c =
    let core = c.runs_are_sound.ensures in
    let tell = c.passes_are_left_alone.ensures.own in
    record {
      reads = λ fds. reads_go_on record { keep = core.events; sound = core.runs; on = c.histories_go_on.ensures } tell fds;
      writes = λ fds. writes_go_on record { keep = core.events; sound = core.runs; on = c.histories_go_on.ensures } tell fds;
      syncs = syncs_go_on;
      batches = batches_go_on;
    }
