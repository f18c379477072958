use Rattle.std.proofs.Common.{◌≡◌, ◌+◌, ◌^◌, ◌<◌, drop, length}
use Rattle.std.specs.List.{concat}
use Rattle.nv_plain.specs.Faults.{saturated}
use Rattle.nv_load.proofs.counts.bytes_in.Given as goal

-- those so far, with those of the parts that are left
abbrev pub invariant-loop-part : goal.invariant-loop-part
invariant-loop-part l = record {
  fits : l.all < 2 ^ 64;
  sum : saturated (l.all + length (concat (drop l.part-index l.parts))) ≡ saturated (length (concat l.fn.parts));
}
