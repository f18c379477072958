-- The calls that were passed over are of other threads.
use Rattle.std.proofs.Common.{◌≡◌, length}
use Rattle.nv_runner.specs.Shifts.{calls_of_thread}
use Rattle.nv_runner.proofs.call_list.from_own.Given as goal

abbrev pub invariant-loop-call : goal.invariant-loop-call
invariant-loop-call l = calls_of_thread l.thread l.rest ≡ calls_of_thread l.thread l.fn.calls

abbrev pub decreases-loop-call : goal.decreases-loop-call
decreases-loop-call l = length l.rest
