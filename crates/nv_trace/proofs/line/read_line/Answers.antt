use Rattle.std.proofs.Common.{sym, subst}
use Rattle.std.proofs.lemmas.Result.{IfErr-weaker}
use Rattle.nv_trace.specs.Reading.{after_line}
use Rattle.nv_trace.specs.Refused.{IsBadAs}
use Rattle.nv_trace.proofs.Schedules.{as_schedule, some_rest}
use Rattle.nv_trace.proofs.line.read_line.Goals as goal

pub returns-then-is_some-clause-read : goal.returns-then-is_some-clause-read
returns-then-is_some-clause-read c =
    let rest = some_rest c.args.line.now c.behind_steps.result c.behind_steps.ensures (sym (c.if-is_some.ensures)) in
    let same = as_schedule c.args.trace.now c.args.number c.args.line.now rest.0 rest.1 in
    rw same c.schedule.ensures.read

pub returns-then-is_some-clause-bad : goal.returns-then-is_some-clause-bad
returns-then-is_some-clause-bad c =
    let rest = some_rest c.args.line.now c.behind_steps.result c.behind_steps.ensures (sym (c.if-is_some.ensures)) in
    let same = as_schedule c.args.trace.now c.args.number c.args.line.now rest.0 rest.1 in
    IfErr-weaker c.schedule.result _ _ (λ error bad. subst (λ told. IsBadAs told c.args.number error) (sym same) bad) c.schedule.ensures.bad

pub returns-in-Err-clause-bad : goal.returns-in-Err-clause-bad
returns-in-Err-clause-bad c = c.line_error.ensures (after_line c.args.trace.now c.args.number c.args.line.now) c.in-Err.ensures.bad
