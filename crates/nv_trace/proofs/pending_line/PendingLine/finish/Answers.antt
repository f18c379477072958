use Rattle.std.proofs.Common.{◌<◌, [], length, true, ◌∙◌, sym, arith}
use Rattle.nv_trace.proofs.Refusals.{last_line}
use Rattle.nv_trace.proofs.pending_line.PendingLine.finish.Goals as goal

pub returns-in_ok-end_line-clause-whole : goal.returns-in_ok-end_line-clause-whole
returns-in_ok-end_line-clause-whole c =
    let pending = c.args.self.now in
    let some : 0 < length pending.line.items = grind (arith, c.is_empty.ensures, c.if-not-is_empty.true, pending.line.ok) in
    last_line c.args.trace.now pending some ∙ sym (c.in_ok-end_line.ensures.lines true [])
