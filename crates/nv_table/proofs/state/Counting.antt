-- Counting: as many different numbers as there are from 1 on are all of them.
use Rattle.std.proofs.Common.{◌≡◌, ℕ, ◌+◌, ◌<◌, ◌≤◌, ◌⊎◌, true, false, List, [], ◌∷◌, length, inl, inr, arith}
use Rattle.std.specs.List.{list_any, AllByRecursion, IsDistinct}
use Rattle.std.proofs.Math.Dec.{eqb}
use Rattle.std.proofs.lemmas.Bool.{cases_eq, or_cases, eqb-true, ne_eqb}
use Rattle.std.proofs.lemmas.Map.Keys.{IsDistinct-cons}
use Rattle.std.proofs.lemmas.Map.Steps.{length-le_from_distinct_below}
use Rattle.nv_core.specs.state.Passes.{IsOneOf}
use Rattle.nv_table.specs.state.Views.{AreDistinctNumbers}

is_there : (xs : List ℕ) (q : ℕ) → IsOneOf xs q ⊎ (IsOneOf xs q → ⊥)
is_there [] q = inr (λ one. one)
is_there (first ∷ rest) q = elim (cases_eq q first) [
  | inl e ↦ inl (inl e)
  | inr ne ↦ elim (is_there rest q) [
    | inl one ↦ inl (inr one)
    | inr none ↦ inr (λ one. elim one [ inl e ↦ ne e | inr later ↦ none later ])
  ]
]

none_equal : (xs : List ℕ) (q : ℕ) → (IsOneOf xs q → ⊥) → AllByRecursion (λ y. eqb q y ≡ false) xs
none_equal [] q none = tt
none_equal (first ∷ rest) q none = (ne_eqb q first (λ e. none (inl e)), none_equal rest q (λ one. none (inr one)))

distinct : (xs : List ℕ) → AreDistinctNumbers xs → IsDistinct eqb xs
unfolding IsDistinct
distinct [] apart = tt
distinct (first ∷ rest) apart = IsDistinct-cons eqb first rest (none_equal rest first apart.0) (distinct rest apart.1)

found : (xs : List ℕ) (q : ℕ) → list_any (eqb q) xs ≡ true → IsOneOf xs q
found [] q any = absurd cc
found (first ∷ rest) q any = elim (or_cases (eqb q first) (list_any (eqb q) rest) any) [
  | inl e ↦ inl (eqb-true q first e)
  | inr later ↦ inr (found rest q later)
]

-- No more different numbers from 1 up to some number are there than it says.
pub few_there : (xs : List ℕ) (count : ℕ) → AreDistinctNumbers xs → ((q : ℕ) → IsOneOf xs q → (1 ≤ q) × (q ≤ count)) → length xs ≤ count
few_there xs count apart within =
    let no_zero : IsOneOf xs 0 → ⊥ = λ one. (let w = within 0 one in omega arith) in
    let below : (n : ℕ) → list_any (eqb n) (0 ∷ xs) ≡ true → n < count + 1 = λ n any. low n (found (0 ∷ xs) n any) in
    let long = length-le_from_distinct_below (0 ∷ xs) (count + 1) (distinct (0 ∷ xs) (no_zero, apart)) below in
    omega arith
  where
    low : (n : ℕ) → IsOneOf (0 ∷ xs) n → n < count + 1
    low n (inl e) = omega arith
    low n (inr one) = let w = within n one in omega arith

pub all_there : (xs : List ℕ) (count : ℕ) → AreDistinctNumbers xs → ((q : ℕ) → IsOneOf xs q → (1 ≤ q) × (q ≤ count)) → length xs ≡ count → (q : ℕ) → 1 ≤ q → q ≤ count → IsOneOf xs q
all_there xs count apart within many q least most = elim (is_there xs q) [
  | inl one ↦ one
  | inr none ↦ absurd (let long = few_there (q ∷ xs) count (none, apart) with_it in omega arith)
]
  where
    with_it : (n : ℕ) → IsOneOf (q ∷ xs) n → (1 ≤ n) × (n ≤ count)
    with_it n (inl e) = (omega arith, omega arith)
    with_it n (inr later) = within n later
