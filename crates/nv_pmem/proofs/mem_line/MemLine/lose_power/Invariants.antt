use Rattle.nv_pmem.proofs.PickedLaws.{PicksWords}
use Rattle.nv_pmem.proofs.mem_line.MemLine.lose_power.Given as goal

-- the words before this one have lost power
abbrev pub invariant-loop-at : goal.invariant-loop-at
invariant-loop-at l = PicksWords l.initial.picker l.initial.self l.at l.self l.picker
