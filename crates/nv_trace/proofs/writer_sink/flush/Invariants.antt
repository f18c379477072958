use Rattle.std.specs.Io.KnownBytes as known
use Rattle.nv_trace.proofs.writer_sink.flush.Given as goal

-- the calls so far wrote nothing
abbrev pub invariant-loop : goal.invariant-loop
invariant-loop g l = known.Keeps (g.W.Write.contents l.fn.writer) (g.W.Write.contents l.writer)
