use Rattle.std.proofs.Common.{◌≡◌, ◌+◌, drop}
use Rattle.std.specs.List.{sum}
use Rattle.nv_trace.specs.Grammar.{largest_count}
use Rattle.nv_trace.proofs.spelling.are_countable.Given as goal

-- what is left, and what the lengths behind add up to
abbrev pub invariant-loop-len : goal.invariant-loop-len
invariant-loop-len l = l.left + sum l.fn.lens ≡ largest_count + sum (drop l.len-index l.lens)
