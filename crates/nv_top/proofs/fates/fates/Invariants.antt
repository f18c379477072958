use Rattle.std.proofs.Common.{◌≡◌, map, take}
use Rattle.nv_runner.specs.KeptRounds.{kept_open_call}
use Rattle.nv_top.specs.Fates.{fated_opened}
use Rattle.nv_top.specs.Outcomes.{fated_call}
use Rattle.nv_top.proofs.fates.fates.Given as goal

abbrev pub invariant-loop-one : goal.invariant-loop-one
invariant-loop-one l = map fated_call l.all.items ≡ map (fated_opened l.found.first l.found.groups) (map kept_open_call (take l.one-index l.writes))
