use Rattle.std.proofs.Common.{◌≡◌, length, map, take}
use Rattle.nv_trace.proofs.report.part_lens_text.Given as goal

abbrev pub invariant-loop-part : goal.invariant-loop-part
invariant-loop-part l = l.lens.items ≡ map (λ part. length part) (take l.part-index l.fn.parts)
