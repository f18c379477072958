use Rattle.std.proofs.Common.{◌≡◌, take}
use Rattle.nv_runner.proofs.parts.scattered.Given as goal

abbrev pub invariant-loop-len : goal.invariant-loop-len
invariant-loop-len l = l.scatter.lens ≡ take l.len-index l.len-items
