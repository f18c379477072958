use Rattle.std.proofs.Common.{◌≡◌, length}
use Rattle.nv_trace.proofs.Writing.{IsPartWritten}
use Rattle.nv_trace.proofs.streams.write_all.Given as goal

abbrev pub invariant-loop-rest : goal.invariant-loop-rest
invariant-loop-rest g l = record {
  part : IsPartWritten (g.O.Sink.written l.fn.out) (g.O.Sink.written l.out) l.bytes l.rest;
  no_fault : g.O.Sink.fault_count l.out ≡ g.O.Sink.fault_count l.fn.out;
}

abbrev pub decreases-loop-rest : goal.decreases-loop-rest
decreases-loop-rest g l = length l.rest
