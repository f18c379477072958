-- By what each advance makes of the pass of its caller.
use Rattle.nv_schedule.proofs.AnswerLaws.{CallLaws}
use Rattle.nv_schedule.proofs.CoreRunLaws.{schedules_run_in_core}
use Rattle.nv_schedule.proofs.laws.schedules_run_in_the_core.Goals as goal

pub returns : goal.returns
returns c =
    let laws : CallLaws = record {
      calls_heed = c.ended_calls_heed_stop.ensures.calls;
      syncs_heed = c.ended_calls_heed_stop.ensures.syncs;
      writes_leave = c.refused_writes_leave_words.ensures.made;
      writes_open = c.faults_open_writes.ensures.made_writes;
      reads_open = c.faults_open_writes.ensures.made_reads;
      syncs_open = c.faults_open_writes.ensures.syncs;
      reads_go = c.tries_go_on.ensures.reads;
      writes_go = c.tries_go_on.ensures.writes;
      syncs_go = c.tries_go_on.ensures.syncs;
      sound = c.runs_are_sound.ensures.runs;
      tell = c.passes_are_left_alone.ensures.own;
    } in
    schedules_run_in_core laws
