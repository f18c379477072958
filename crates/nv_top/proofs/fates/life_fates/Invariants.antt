use Rattle.std.proofs.Common.{◌≡◌, map, take}
use Rattle.nv_top.specs.Fates.{fated}
use Rattle.nv_top.specs.Outcomes.{fated_call}
use Rattle.nv_top.proofs.fates.life_fates.Given as goal

abbrev pub invariant-loop-one : goal.invariant-loop-one
invariant-loop-one l = map fated_call l.all.items ≡ map (fated l.found.first l.found.groups) (take l.one-index l.writes)
