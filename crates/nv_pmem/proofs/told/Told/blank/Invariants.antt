use Rattle.std.proofs.Common.{◌≡◌, replicate}
use Rattle.nv_pmem.specs.Part.{blank_line}
use Rattle.nv_pmem.proofs.told.Told.blank.Given as goal

abbrev pub invariant-loop : goal.invariant-loop
invariant-loop l = l.lines.items ≡ replicate l.counter blank_line
