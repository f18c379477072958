-- With those of the calls that are left they are all of the thread's.
use Rattle.std.proofs.Common.{◌≡◌, ◌+◌, ◌≤◌, drop, length}
use Rattle.nv_runner.specs.Shifts.{calls_of_thread}
use Rattle.nv_runner.proofs.call_list.count_of.Given as goal

abbrev pub invariant-loop-call : goal.invariant-loop-call
invariant-loop-call l = record {
  few : l.count ≤ l.call-index;
  all : l.count + length (calls_of_thread l.thread (drop l.call-index l.calls)) ≡ length (calls_of_thread l.thread l.calls);
}
