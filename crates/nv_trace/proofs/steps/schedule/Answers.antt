use Rattle.nv_trace.specs.Reading.{after_schedule}
use Rattle.nv_trace.proofs.steps.schedule.Goals as goal

pub returns-in-Err-clause-bad : goal.returns-in-Err-clause-bad
returns-in-Err-clause-bad c = c.line_error.ensures (after_schedule c.args.trace.now c.args.line.now) c.in-Err.ensures.bad
