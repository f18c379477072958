use Rattle.nv_core.proofs.crash.EmptyLogs.{empty_logs_are_stored, empty_logs_rest}
use Rattle.nv_core.proofs.crash_laws.empty_logs_rest.Goals as goal

pub returns : goal.returns
returns c = record { stored = empty_logs_are_stored; rest = empty_logs_rest }
