use Rattle.std.proofs.Common.{◌≡◌, ◌+◌, ◌≤◌, take, fold}
use Rattle.nv_trace.specs.Grammar.{last_thread}
use Rattle.nv_trace.specs.Traced.{with_thread}
use Rattle.nv_trace.proofs.trace.Trace.thread_count.Given as goal

abbrev pub invariant-loop-traced : goal.invariant-loop-traced
invariant-loop-traced l = record {
  so_far : l.count ≡ fold with_thread 1 (take l.traced-index l.traced-items);
  few : l.count ≤ last_thread + 1;
}
