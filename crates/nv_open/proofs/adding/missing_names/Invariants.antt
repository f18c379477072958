use Rattle.std.proofs.Common.{◌≡◌, take}
use Rattle.nv_open.specs.Adding.{new_names}
use Rattle.nv_open.proofs.adding.missing_names.Given as goal

-- those of the names before this one
abbrev pub invariant-loop-name : goal.invariant-loop-name
invariant-loop-name l = l.missing ≡ new_names l.fn.known (take l.name-index l.fn.wanted)
