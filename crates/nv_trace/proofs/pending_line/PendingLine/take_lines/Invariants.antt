use Rattle.std.proofs.Common.{◌≡◌, ◌-◌, ◌+◌, ◌≤◌, length, take}
use Rattle.nv_trace.specs.Pending.{HasTaken}
use Rattle.nv_trace.specs.Shape.{IsNumberedBelow}
use Rattle.nv_trace.proofs.pending_line.PendingLine.take_lines.Given as goal

abbrev pub invariant-loop-end : goal.invariant-loop-end
invariant-loop-end l = record {
  used : l.used ≤ length l.bytes;
  taken : HasTaken l.fn.trace l.fn.self (take l.used l.bytes) l.trace l.self;
  few : l.self.number + length l.self.line.items ≤ l.fn.self.number + length l.fn.self.line.items + l.used;
  onward : l.fn.self.number ≤ l.self.number;
  form : l.trace.form ≡ l.fn.trace.form;
  numbered : IsNumberedBelow l.fn.self.number l.fn.trace → IsNumberedBelow l.self.number l.trace;
}

abbrev pub decreases-loop-end : goal.decreases-loop-end
decreases-loop-end l = length l.bytes - l.used
