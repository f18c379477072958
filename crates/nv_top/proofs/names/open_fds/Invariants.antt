use Rattle.std.proofs.Common.{◌≡◌, map, take}
use Rattle.nv_runner.specs.Faithful.{placed_in}
use Rattle.nv_runner.specs.FaithfulRuns.{as_fd}
use Rattle.nv_top.proofs.names.open_fds.Given as goal

abbrev pub invariant-loop-descriptor : goal.invariant-loop-descriptor
invariant-loop-descriptor l = l.fds ≡ map as_fd (map (placed_in l.fn.names l.fn.trace) (take l.descriptor-index l.fn.trace.descriptors))
