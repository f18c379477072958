-- By what each command leaves.
use Rattle.nv_top.proofs.FoundLemmas.{next_finds_looked, next_finds_recovered, next_finds_run, next_finds_scheduled, next_finds_shown, next_finds_stopped, runs_have_one_history}
use Rattle.nv_top.proofs.NextLemmas.{next_begins_behind, next_begins_behind_recovery, next_begins_behind_schedule, next_begins_behind_stop, next_is_ready}
use Rattle.nv_top.proofs.laws.a_next_command_may_follow.Goals as goal

pub returns : goal.returns
returns c = record {
  ready = next_is_ready;
  begins = next_begins_behind;
  begins_behind_stop = next_begins_behind_stop;
  begins_behind_schedule = next_begins_behind_schedule;
  begins_behind_recovery = next_begins_behind_recovery;
  finds_run = next_finds_run;
  finds_stopped = next_finds_stopped;
  finds_scheduled = next_finds_scheduled;
  finds_shown = next_finds_shown;
  finds_recovered = next_finds_recovered;
  finds_looked = next_finds_looked;
  one_history = runs_have_one_history;
}
