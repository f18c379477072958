-- The sum so far and that of the bytes that are left are that of all.
use Rattle.std.proofs.Common.{◌≡◌, ◌+◌, ◌^◌, ◌<◌, drop}
use Rattle.nv_plain.specs.Faults.{saturated}
use Rattle.nv_load.specs.Summaries.{weighted_sum}
use Rattle.nv_load.proofs.summary.sum_of.Given as goal

abbrev pub invariant-loop-place : goal.invariant-loop-place
invariant-loop-place l = record {
  fits : l.sum < 2 ^ 64;
  all : saturated (l.sum + weighted_sum (l.place + 1) (drop l.place l.file)) ≡ saturated (weighted_sum 1 l.file);
}
