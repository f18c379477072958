use Rattle.std.proofs.Common.{◌≡◌, map}
use Rattle.std.specs.Prelude.{string_bytes}
use Rattle.nv_bench.proofs.Lists.{Passed}
use Rattle.nv_bench.proofs.bench_stores.place_of.Given as goal

abbrev pub invariant-loop-other : goal.invariant-loop-other
invariant-loop-other l = record { i_is : l.i ≡ l.other-index; passed : Passed l.name (map string_bytes l.names) l.other-index }
