use Rattle.std.proofs.Common.{◌≡◌, ◌++◌, take, replicate}
use Rattle.nv_pmem.specs.Part.{blank_line}
use Rattle.nv_pmem.proofs.told.Told.resized.Given as goal

abbrev pub invariant-loop-line : goal.invariant-loop-line
invariant-loop-line l = l.lines.items ≡ take l.line (l.self.lines.items ++ replicate l.count blank_line)
