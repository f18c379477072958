use Rattle.std.proofs.Common.{◌≡◌, ◌≤◌, ◌++◌, take, drop, length}
use Rattle.nv_trace.specs.Lives.{behind_begun}
use Rattle.nv_trace.proofs.trace.drop_first.Given as goal

abbrev pub invariant-loop-i : goal.invariant-loop-i
invariant-loop-i l = record {
  behind : take l.kept l.calls.items ++ behind_begun l.left (drop l.i l.calls.items) ≡ behind_begun l.fn.begun l.fn.calls.items;
  rest : drop l.i l.calls.items ≡ drop l.i l.fn.calls.items;
  few : l.kept ≤ l.i;
  long : length l.calls.items ≡ length l.fn.calls.items;
  eight : length l.left ≡ 8;
}
