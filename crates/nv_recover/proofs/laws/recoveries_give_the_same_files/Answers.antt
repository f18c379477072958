use Rattle.std.proofs.Common.{◌∙◌}
use Rattle.nv_recover.proofs.Interrupted.{end_is_stop, promise_is_run, promise_keeps_telling, stops_log, stops_read, stops_stand}
use Rattle.nv_recover.proofs.laws.recoveries_give_the_same_files.Goals as goal

pub returns-clause-runs : goal.returns-clause-runs
returns-clause-runs c = promise_is_run

pub returns-clause-ends : goal.returns-clause-ends
returns-clause-ends c = end_is_stop

pub returns-clause-log : goal.returns-clause-log
returns-clause-log c = stops_log

pub returns-clause-tell : goal.returns-clause-tell
returns-clause-tell c = promise_keeps_telling

pub returns-clause-header : goal.returns-clause-header
returns-clause-header c = stops_read

pub returns-clause-fits : goal.returns-clause-fits
returns-clause-fits c = λ first later stops fits. (stops_stand first later stops fits).fits

pub returns-clause-same : goal.returns-clause-same
returns-clause-same c = λ first later stops fits. (stops_stand first later stops fits).recovers

pub returns-clause-last : goal.returns-clause-last
returns-clause-last c = λ first later held stops fits is. is ∙ (stops_stand first later stops fits).recovers
