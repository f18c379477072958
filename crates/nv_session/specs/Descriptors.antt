-- Descriptors: the place of a file among the names of a region.
use Rattle.std.specs.Prelude.{ℕ, nat_eq, List, Option, position}
use lib.Pointwise.{pointwise}

-- where a name stands first, if it does
abbrev pub place_in : (names : List (List ℕ)) → (name : List ℕ) → Option ℕ
place_in names name = position (λ known. pointwise nat_eq known name) names
