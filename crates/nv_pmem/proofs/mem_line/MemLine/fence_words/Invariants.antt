use Rattle.std.proofs.Common.{◌≡◌, ◌++◌, map, take, drop}
use Rattle.nv_pmem.specs.Part.{fenced_word}
use Rattle.nv_pmem.proofs.mem_line.MemLine.fence_words.Given as goal

-- the words before this one are fenced
abbrev pub invariant-loop-at : goal.invariant-loop-at
invariant-loop-at l = l.self ≡ map fenced_word (take l.at l.initial.self) ++ drop l.at l.initial.self
