use Rattle.std.proofs.Common.{◌≡◌, ◌++◌, drop}
use Rattle.std.specs.List.{concat}
use Rattle.nv_plain.proofs.plain_files.join.Given as goal

-- the bytes so far, with the parts that are left
abbrev pub invariant-loop-part : goal.invariant-loop-part
invariant-loop-part l = l.bytes.items ++ concat (drop l.part-index l.parts) ≡ concat l.fn.parts
