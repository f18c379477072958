use Rattle.std.proofs.Common.{◌≡◌, take}
use Rattle.nv_pmem.specs.MemLine.{column}
use Rattle.nv_pmem.proofs.mem_line.taken_from.Given as goal

-- the values of the rows before this one
abbrev pub invariant-loop-row : goal.invariant-loop-row
invariant-loop-row l = l.values.items ≡ take l.row (column l.rows l.at)
