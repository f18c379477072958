-- So many of the calls that were begun stand behind the others.
use Rattle.std.proofs.Common.{◌≡◌, ◌++◌, map, take}
use Rattle.nv_top.specs.Fates.{begun_call}
use Rattle.nv_top.specs.Outcomes.{fated_call}
use Rattle.nv_top.proofs.fates.with_begun.Given as goal

abbrev pub invariant-loop-call : goal.invariant-loop-call
invariant-loop-call l =
    map fated_call l.all.items ≡ map fated_call l.initial.all.items ++ map begun_call (map (λ call. call.now) (take l.call-index l.begun))
