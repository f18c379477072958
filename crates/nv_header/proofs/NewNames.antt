-- A name among others.
use Rattle.std.proofs.Common.{◌≡◌, ◌≢◌, ℕ, ◌<◌, Bool, true, false, List, [], length, get_or, slice_index_or, refl, sym, ◌∙◌}
use Rattle.std.specs.Prelude.{nat_eq}
use Rattle.std.specs.List.{list_any}
use Rattle.std.specs.Cmp.Lexicographic.{same_text, other_text}
use Rattle.std.proofs.lemmas.List.{get_or_default}
use Rattle.std.proofs.lemmas.List.Folds.{Any-from_list_any, list_any_at}
use lib.Pointwise.{pointwise}

true_unless : (b : Bool) → ¬ (false ≡ b) → b ≡ true
true_unless true never = refl
true_unless false never = absurd (never refl)

-- one that isn't found is none of them
pub unknown_name : (names : List (List ℕ)) (name : List ℕ) → list_any (λ known. pointwise nat_eq known name) names ≡ false → (j : ℕ) → j < length names → slice_index_or names j [] ≢ name
unknown_name names name unknown j below same =
    let is_same : pointwise nat_eq (get_or names j []) name ≡ true = true_unless _ (λ other. other_text _ _ other same) in
    let known = list_any_at (λ one. pointwise nat_eq one name) names j [] below is_same in
    let never : false ≡ true = sym unknown ∙ known in
    cc

-- and one that is found is one of them
pub known_name : (names : List (List ℕ)) (name : List ℕ) → list_any (λ known. pointwise nat_eq known name) names ≡ true → ((j : ℕ) → j < length names → slice_index_or names j [] ≢ name) → ⊥
known_name names name known new =
    let (k, x, inside, at, is) = Any-from_list_any (λ one. pointwise nat_eq one name) names known in
    new k inside (get_or_default names k [] x inside ∙ at ∙ same_text x name (sym is))
