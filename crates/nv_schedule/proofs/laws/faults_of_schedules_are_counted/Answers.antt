-- By the pass of the caller that made the last advance.
use Rattle.nv_schedule.proofs.AnswerLaws.{CallLaws}
use Rattle.nv_schedule.proofs.CountedLaws.{faults_are_counted}
use Rattle.nv_schedule.proofs.laws.faults_of_schedules_are_counted.Goals as goal

pub returns : goal.returns
returns c =
    let laws : CallLaws = record {
      calls_heed = c.ended_calls_heed_stop.ensures.calls;
      syncs_heed = c.ended_calls_heed_stop.ensures.syncs;
      writes_leave = c.refused_writes_leave_words.ensures.made;
      writes_open = c.faults_open_writes.ensures.made_writes;
      reads_open = c.faults_open_writes.ensures.made_reads;
      syncs_open = c.faults_open_writes.ensures.syncs;
      reads_go = c.tries_go_on.ensures.reads;
      writes_go = c.tries_go_on.ensures.writes;
      syncs_go = c.tries_go_on.ensures.syncs;
      sound = c.runs_are_sound.ensures.runs;
      tell = c.passes_are_left_alone.ensures.own;
    } in
    faults_are_counted laws
