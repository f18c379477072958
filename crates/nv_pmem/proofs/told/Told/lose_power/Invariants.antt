use Rattle.nv_pmem.proofs.PickedLaws.{PicksFirst}
use Rattle.nv_pmem.proofs.told.Told.lose_power.Given as goal

-- the lines below this one have lost power
abbrev pub invariant-loop-line : goal.invariant-loop-line
invariant-loop-line l = PicksFirst l.fn.picker l.initial.line-items l.line-index l.line-items l.picker
