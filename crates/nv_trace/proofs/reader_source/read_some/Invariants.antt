use Rattle.std.specs.Io.KnownBytes as known
use Rattle.nv_trace.proofs.reader_source.read_some.Given as goal

-- the calls so far took nothing
abbrev pub invariant-loop : goal.invariant-loop
invariant-loop g l = known.Keeps (g.R.Read.remaining l.fn.reader) (g.R.Read.remaining l.reader)
