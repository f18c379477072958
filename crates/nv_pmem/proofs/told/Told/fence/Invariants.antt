use Rattle.std.proofs.Common.{◌≡◌, ◌++◌, map, take, drop}
use Rattle.nv_pmem.specs.Part.{fenced}
use Rattle.nv_pmem.proofs.told.Told.fence.Given as goal

abbrev pub invariant-loop-line : goal.invariant-loop-line
invariant-loop-line l =
    l.line-items ≡ map fenced (take l.line-index l.initial.line-items) ++ drop l.line-index l.initial.line-items
