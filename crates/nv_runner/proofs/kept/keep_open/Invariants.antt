use Rattle.std.proofs.Common.{◌≡◌, ◌++◌, map, take}
use Rattle.nv_runner.specs.KeptRounds.{kept_open_call}
use Rattle.nv_runner.specs.Sorted.{opened_call}
use Rattle.nv_runner.proofs.kept.keep_open.Given as goal

-- the first ones were put
abbrev pub invariant-loop-one : goal.invariant-loop-one
invariant-loop-one l = map kept_open_call l.kept.items ≡ map kept_open_call l.initial.kept.items ++ map opened_call (take l.one-index l.open_calls)
