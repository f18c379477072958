-- Sums over lists, and how often a number is there.
use Rattle.std.proofs.Common.{◌≡◌, ◌≢◌, ℕ, ◌+◌, ◌≤◌, cond, eqb, List, [], ◌∷◌, ◌++◌, map, inl, inr, refl, sym, ap, subst, ◌∙◌, arith}
use Rattle.std.specs.List.{flat_map, sum_by}
use Rattle.std.specs.List.Sorted.{IsPermutation}
use Rattle.std.proofs.lemmas.Bool.{cases_eq, eq-eqb, ne_eqb}
use Rattle.std.proofs.lemmas.List.Sums.{sum_by-cons}
use Rattle.std.proofs.lemmas.List.Sorted.{sum_by-IsPermutation}
use Rattle.nv_core.specs.state.Passes.{IsOneOf}
use Rattle.nv_table.specs.state.Views.{AreDistinctNumbers}

-- what each of some adds, the first of them first
abbrev pub added : {X : Type 0} → (X → ℕ) → List X → ℕ
added count [] = 0
added count (x ∷ xs) = count x + added count xs

added_is : {X : Type 0} (count : X → ℕ) (xs : List X) → added count xs ≡ sum_by count xs
added_is count [] = refl
added_is count (x ∷ xs) = ap (λ n. count x + n) (added_is count xs) ∙ sym (sum_by-cons count x xs)

-- the order doesn't matter
pub added_moved : {X : Type 0} (count : X → ℕ) (xs ys : List X) → IsPermutation xs ys → added count xs ≡ added count ys
added_moved count xs ys moved = added_is count xs ∙ sym (sum_by-IsPermutation count xs ys moved) ∙ sym (added_is count ys)

pub added_append : {X : Type 0} (count : X → ℕ) (xs ys : List X) → added count (xs ++ ys) ≡ added count xs + added count ys
added_append count [] ys = omega arith
added_append count (x ∷ xs) ys = let later = added_append count xs ys in omega arith

pub added_joined : {X Y : Type 0} (count : Y → ℕ) (f : X → List Y) (xs : List X) → added count (flat_map f xs) ≡ added (λ x. added count (f x)) xs
added_joined count f [] = refl
added_joined count f (x ∷ xs) = added_append count (f x) (flat_map f xs) ∙ ap (λ n. added count (f x) + n) (added_joined count f xs)

pub added_mapped : {X Y : Type 0} (count : Y → ℕ) (f : X → Y) (xs : List X) → added count (map f xs) ≡ added (λ x. count (f x)) xs
added_mapped count f [] = refl
added_mapped count f (x ∷ xs) = ap (λ n. count (f x) + n) (added_mapped count f xs)

pub added_same : {X : Type 0} (one other : X → ℕ) (xs : List X) → ((x : X) → IsOneOf xs x → one x ≡ other x) → added one xs ≡ added other xs
added_same one other [] same = refl
added_same one other (x ∷ xs) same =
    let here = same x (inl refl) in
    let later = added_same one other xs (λ y there. same y (inr there)) in
    omega arith

pub added_none : {X : Type 0} (count : X → ℕ) (xs : List X) → ((x : X) → IsOneOf xs x → count x ≡ 0) → added count xs ≡ 0
added_none count [] none = refl
added_none count (x ∷ xs) none =
    let here = none x (inl refl) in
    let later = added_none count xs (λ y there. none y (inr there)) in
    omega arith

-- ---- numbers that are there

-- 1 for the number itself, and else 0
abbrev pub if_same : ℕ → ℕ → ℕ
if_same a b = cond (eqb a b) 1 0

pub same_counts : (a b : ℕ) → a ≡ b → if_same a b ≡ 1
same_counts a b is = ap (λ t. cond t 1 0) (eq-eqb a b is)

pub other_counts : (a b : ℕ) → a ≢ b → if_same a b ≡ 0
other_counts a b ne = ap (λ t. cond t 1 0) (ne_eqb a b ne)

-- how often a number is among some
abbrev pub times_there : ℕ → List ℕ → ℕ
times_there number numbers = added (if_same number) numbers

pub not_there : (number : ℕ) (numbers : List ℕ) → (IsOneOf numbers number → ⊥) → times_there number numbers ≡ 0
not_there number numbers none = added_none (if_same number) numbers (λ n one. other_counts number n (λ is. none (is_one n one is)))
  where
    is_one : (n : ℕ) → IsOneOf numbers n → number ≡ n → IsOneOf numbers number
    is_one n one is = subst (IsOneOf numbers) (sym is) one

pub once_there : (number : ℕ) (numbers : List ℕ) → AreDistinctNumbers numbers → times_there number numbers ≤ 1
once_there number [] distinct = omega arith
once_there number (first ∷ rest) distinct = elim (cases_eq number first) [
  | inl is ↦ (
      let here = same_counts number first is in
      let later = not_there number rest (λ one. distinct.0 (subst (IsOneOf rest) is one)) in
      omega arith
      )
  | inr ne ↦ (
      let here = other_counts number first ne in
      let later = once_there number rest distinct.1 in
      omega arith
      )
]

pub some_there : (number : ℕ) (numbers : List ℕ) → IsOneOf numbers number → 1 ≤ times_there number numbers
some_there number [] one = absurd one
some_there number (first ∷ rest) (inl is) = let here = same_counts number first is in omega arith
some_there number (first ∷ rest) (inr later) = let there = some_there number rest later in omega arith
