use Rattle.std.proofs.Common.{◌+◌, [], ◌∙◌, sym, ap}
use Rattle.std.proofs.lemmas.Result.{err_from_is_err_and}
use Rattle.nv_trace.specs.Reading.{after_line, unless_bad}
use Rattle.nv_trace.specs.Pending.{ending_after}
use Rattle.nv_trace.proofs.Endings.{line_ended}
use Rattle.nv_trace.proofs.Refusals.{bad_line}
use Rattle.nv_trace.proofs.pending_line.PendingLine.end_line.Goals as goal

pub returns-in_err-read_line-clause-bad : goal.returns-in_err-read_line-clause-bad
returns-in_err-read_line-clause-bad c =
    let p = err_from_is_err_and c.from_residual.result c.from_residual.ensures.1 in
    rw (p.1, p.2) (bad_line c.args.trace.now c.args.self.now c.in_err-read_line.field-0.0 (rw c.deref.ensures.value at c.in_err-read_line.ensures.bad))

pub returns-clause-lines : goal.returns-clause-lines
returns-clause-lines c =
    let pending = c.args.self.now in
    let trace = c.args.trace.now in
    let read = ap (after_line trace pending.number) (sym c.deref.ensures.value) ∙ c.in_ok-read_line.ensures.read in
    λ whole rest.
    ap (λ line. ending_after whole c.read_line.new.trace (pending.number + 1) line rest) c.clear.ensures.items
    ∙ sym (line_ended whole trace pending.number pending.line.items rest
    ∙ ap (λ after. unless_bad pending.number (λ next. ending_after whole next (pending.number + 1) [] rest) after) read)
