-- By what the pass of a call had seen where that was refused, and by what a call in mid-call asks for.
use Rattle.nv_runner.proofs.RefusalWords.{WordLaws}
use Rattle.nv_schedule.proofs.AnswerLaws.{CallLaws}
use Rattle.nv_schedule.proofs.RefusalLaws.{refusals_have_causes}
use Rattle.nv_schedule.proofs.UnbarredLaws.{placed_are_unbarred}
use Rattle.nv_schedule.proofs.laws.schedules_refuse_with_cause.Goals as goal

pub returns : goal.returns
returns c =
    let core = c.runs_are_sound.ensures in
    let draws = c.heads_count_draws.ensures in
    let words : WordLaws = record { keep = core.events; sound = core.runs; on = c.histories_go_on.ensures } in
    let laws : CallLaws = record {
      calls_heed = c.ended_calls_heed_stop.ensures.calls;
      syncs_heed = c.ended_calls_heed_stop.ensures.syncs;
      writes_leave = c.refused_writes_leave_words.ensures.made;
      writes_open = c.faults_open_writes.ensures.made_writes;
      reads_open = c.faults_open_writes.ensures.made_reads;
      syncs_open = c.faults_open_writes.ensures.syncs;
      reads_go = c.tries_go_on.ensures.reads;
      writes_go = c.tries_go_on.ensures.writes;
      syncs_go = c.tries_go_on.ensures.syncs;
      sound = core.runs;
      tell = c.passes_are_left_alone.ensures.own;
    } in
    record {
      refused = refusals_have_causes record {
        words = words;
        calls = laws;
        causes = c.refusals_have_causes.ensures;
        tell = c.passes_are_left_alone.ensures.own;
        leave = c.passes_are_left_alone.ensures.others;
        counts = draws.runs;
        draws = record { grow = draws.grow; own = draws.own };
      };
      placed = placed_are_unbarred laws;
    }
