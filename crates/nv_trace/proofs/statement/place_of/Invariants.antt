use Rattle.std.proofs.Common.{◌≡◌, ◌<◌, ℕ, List, false, get_or}
use Rattle.nv_trace.proofs.statement.place_of.Given as goal
use lib.Pointwise.{pointwise}
use Rattle.std.specs.Prelude.{nat_eq}

-- none of those before is the name
abbrev pub invariant-loop-place : goal.invariant-loop-place
invariant-loop-place l = (k : ℕ) (d : List ℕ) → k < l.place → pointwise nat_eq (get_or l.names k d) l.name ≡ false
