use Rattle.std.proofs.Common.{◌≡◌, ◌+◌, ◌-◌, ◌≤◌, length}
use Rattle.nv_trace.specs.NextRound.{IsAtLine}
use Rattle.nv_trace.specs.Reading.{largest_input}
use Rattle.nv_trace.specs.Shape.{IsNumberedBelow}
use Rattle.nv_trace.specs.Traced.{token_count}
use Rattle.nv_trace.proofs.WholeRounds.{EndsAlike}
use Rattle.nv_trace.proofs.reader.read_trace.Given as goal

abbrev pub invariant-loop-reader : goal.invariant-loop-reader
invariant-loop-reader g l = record {
  within : IsAtLine l.reader;
  ends : EndsAlike l.fn.form (g.I.Source.left l.fn.src) (g.I.Source.left l.src) l.trace l.reader;
  faults : g.I.Source.fault_count l.src ≡ g.I.Source.fault_count l.fn.src;
  form : l.trace.form ≡ l.fn.form;
  numbered : IsNumberedBelow l.reader.pending.number l.trace;
  tokens : token_count l.trace + length l.trace.lives ≤ l.reader.taken;
}

abbrev pub decreases-loop-reader : goal.decreases-loop-reader
decreases-loop-reader g l = largest_input - l.reader.taken
