-- Places: where a name is among others.
use Rattle.std.specs.Prelude.{ℕ, suc, nat_eq, if◌then◌else◌, List, [], ◌∷◌, Option, Some, None, option_map}
use lib.Pointwise.{pointwise}

-- the first place of a name, counted from 0
abbrev pub place_of : List ℕ → List (List ℕ) → Option ℕ
place_of name [] = None
place_of name (first ∷ rest) = if pointwise nat_eq first name then Some 0 else option_map suc (place_of name rest)
