-- The owners so far are counted.
use Rattle.std.proofs.Common.{◌≡◌, ◌++◌, List, take}
use Rattle.std.specs.List.{flat_map}
use Rattle.nv_runner.specs.Lists.{MadeCall}
use Rattle.nv_load.specs.Counts.{counts_of}
use Rattle.nv_load.specs.Generators.{generator_made}
use Rattle.nv_load.proofs.running.add_all.Given as goal

abbrev pub invariant-loop-owner : goal.invariant-loop-owner
invariant-loop-owner l = (made : List MadeCall) → l.fn.counts ≡ counts_of made → l.counts ≡ counts_of (made ++ flat_map generator_made (take l.owner-index l.done))
