-- Ready: what a bench is over which a command is followed, and a trace whose calls it makes.
use Rattle.std.specs.Prelude.{◌≡◌, ◌^◌, ◌<◌, ◌≤◌, false, [], length, IfSome}
use Rattle.std.specs.List.Sorted.{IsStrictlyIncreasing}
use Rattle.nv_bench.specs.Benches.{BenchState}
use Rattle.nv_bench.specs.Holding.{IsQuietHolding}
use Rattle.nv_runner.specs.declared.running.TheConstants.{MOST_CALLS}
use Rattle.nv_trace.specs.Shape.{IsWellFormed}
use Rattle.nv_trace.specs.Traced.{Traced, lines_in}

-- A bench is closed, nothing of it is lent, and what it holds, where it tells, is quiet.
pub record IsAtHome (bench : BenchState) : Type 0 where
  pub closed : bench.is_open ≡ false
  pub home : bench.lent ≡ []
  pub quiet : IfSome bench.told IsQuietHolding

-- It can be armed besides, and its faults so far are settled.
pub record IsReady (bench : BenchState) : Type 0 where
  pub at_home : IsAtHome bench
  pub arms : bench.arms < 2 ^ 63
  pub settled : bench.settled ≤ bench.faults

-- A trace is as its reader and a load make it: it has its form, no two calls of one line, and no more calls than are run.
pub record IsRunnable (trace : Traced) : Type 0 where
  pub well_formed : IsWellFormed trace
  pub lines : IsStrictlyIncreasing (lines_in trace)
  pub few : length trace.calls ≤ MOST_CALLS
