use Rattle.std.proofs.Common.{◌≡◌, ◌+◌, length, drop}
use Rattle.std.specs.List.{concat}
use Rattle.nv_trace.specs.Grammar.{largest_count}
use Rattle.nv_trace.proofs.spelling.are_movable.Given as goal

-- what is left, and what the parts behind have
abbrev pub invariant-loop-part : goal.invariant-loop-part
invariant-loop-part l = l.left + length (concat l.fn.parts) ≡ largest_count + length (concat (drop l.part-index l.parts))
