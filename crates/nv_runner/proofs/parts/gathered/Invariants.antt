use Rattle.std.proofs.Common.{◌≡◌, take}
use Rattle.nv_runner.proofs.parts.gathered.Given as goal

abbrev pub invariant-loop-part : goal.invariant-loop-part
invariant-loop-part l = l.gather ≡ take l.part-index l.part-items
