use Rattle.std.proofs.Common.{◌≡◌, ◌++◌, drop}
use Rattle.nv_plain.specs.Calls.{filled}
use Rattle.nv_plain.proofs.plain_files.fill.Given as goal

-- the parts so far, with those that are left
abbrev pub invariant-loop-len : goal.invariant-loop-len
invariant-loop-len l = l.parts.items ++ filled (drop l.len-index l.lens) l.rest ≡ filled l.fn.lens l.fn.bytes
