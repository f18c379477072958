use Rattle.std.proofs.Common.{◌≡◌, ◌+◌, drop}
use Rattle.std.specs.List.{sum}
use Rattle.nv_calls.proofs.scatter.start.Given as goal

-- the sum so far, with what is left
abbrev pub invariant-loop-len : goal.invariant-loop-len
invariant-loop-len l = l.all + sum (drop l.len-index l.lens) ≡ sum l.fn.lens
