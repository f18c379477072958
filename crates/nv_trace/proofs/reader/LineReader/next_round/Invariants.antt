use Rattle.std.proofs.Common.{◌≡◌, ◌-◌, ◌≤◌, true}
use Rattle.nv_trace.specs.Ahead.{IsWithinLines}
use Rattle.nv_trace.specs.Reading.{largest_input}
use Rattle.nv_trace.specs.NextRound.{ahead}
use Rattle.nv_trace.specs.Rounds.{has_round}
use Rattle.nv_trace.specs.Shape.{IsNumberedBelow}
use Rattle.nv_trace.proofs.NextRounds.{ReadsOn}
use Rattle.nv_trace.proofs.reader.LineReader.next_round.Given as goal

abbrev pub invariant-loop-self : goal.invariant-loop-self
invariant-loop-self g l = record {
  within : IsWithinLines l.self;
  reads : ReadsOn l.fn.trace l.fn.self (g.I.Source.left l.fn.src) l.trace l.self (g.I.Source.left l.src);
  enough : has_round (ahead l.fn.self) ≡ true → (l.src ≡ l.fn.src) × (l.self ≡ l.fn.self);
  faults : g.I.Source.fault_count l.src ≡ g.I.Source.fault_count l.fn.src;
  onward : l.fn.self.pending.number ≤ l.self.pending.number;
  form : l.trace.form ≡ l.fn.trace.form;
  numbered : IsNumberedBelow l.fn.self.pending.number l.fn.trace → IsNumberedBelow l.self.pending.number l.trace;
}

abbrev pub decreases-loop-self : goal.decreases-loop-self
decreases-loop-self g l = largest_input - l.self.taken
