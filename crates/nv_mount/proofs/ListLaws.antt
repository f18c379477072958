-- Laws about lists and what is one of them.
use Rattle.std.proofs.Common.{◌≡◌, ◌⊎◌, ℕ, ◌==◌, ◌||◌, Bool, true, false, List, [], ◌∷◌, ◌++◌, inl, inr, refl, sym, ap, subst, eq-eqb, zero, suc, ◌<◌, length, get_or, arith}
use Rattle.std.specs.List.{flat_map, list_any}
use Rattle.std.proofs.lemmas.Bool.{or_cases, eqb-true}
use Rattle.nv_pmem.specs.RowStates.{IsNow, AreNow}
use Rattle.nv_core.specs.state.Passes.{IsOneOf}
use Rattle.nv_table.specs.state.Views.{Past, numbers}

pub or_left : (a b : Bool) → a ≡ true → (a || b) ≡ true
or_left a b is = ap (λ c. c || b) is

pub or_right : (a b : Bool) → b ≡ true → (a || b) ≡ true
or_right true b is = refl
or_right false b is = is

pub any_one : (xs : List ℕ) (x : ℕ) → list_any (λ y. y == x) xs ≡ true → IsOneOf xs x
any_one [] x any = absurd cc
any_one (first ∷ rest) x any = elim (or_cases (first == x) (list_any (λ y. y == x) rest) any) [
  | inl is ↦ inl (sym (eqb-true first x is))
  | inr later ↦ inr (any_one rest x later)
]

pub one_any : (xs : List ℕ) (x : ℕ) → IsOneOf xs x → list_any (λ y. y == x) xs ≡ true
one_any [] x one = absurd one
one_any (first ∷ rest) x (inl is) = ap (λ b. b || list_any (λ y. y == x) rest) (eq-eqb first x (sym is))
one_any (first ∷ rest) x (inr later) = or_right (first == x) (list_any (λ y. y == x) rest) (one_any rest x later)

pub one_behind : {X : Type 0} (xs ys : List X) (x : X) → IsOneOf ys x → IsOneOf (xs ++ ys) x
one_behind [] ys x one = one
one_behind (first ∷ xs) ys x one = inr (one_behind xs ys x one)

pub one_before : {X : Type 0} (xs ys : List X) (x : X) → IsOneOf xs x → IsOneOf (xs ++ ys) x
one_before [] ys x one = absurd one
one_before (first ∷ xs) ys x (inl is) = inl is
one_before (first ∷ xs) ys x (inr later) = inr (one_before xs ys x later)

pub one_of_both : {X : Type 0} (xs ys : List X) (x : X) → IsOneOf (xs ++ ys) x → IsOneOf xs x ⊎ IsOneOf ys x
one_of_both [] ys x one = inr one
one_of_both (first ∷ xs) ys x (inl is) = inl (inl is)
one_of_both (first ∷ xs) ys x (inr later) = elim (one_of_both xs ys x later) [ inl here ↦ inl (inr here) | inr behind ↦ inr behind ]

pub one_of_flat : {X Y : Type 0} (f : X → List Y) (xs : List X) (x : X) (y : Y) → IsOneOf xs x → IsOneOf (f x) y → IsOneOf (flat_map f xs) y
one_of_flat f [] x y one other = absurd one
one_of_flat f (first ∷ rest) x y (inl is) other = one_before (f first) (flat_map f rest) y (subst (λ z. IsOneOf (f z) y) is other)
one_of_flat f (first ∷ rest) x y (inr later) other = one_behind (f first) (flat_map f rest) y (one_of_flat f rest x y later other)

pub flat_one : {X Y : Type 0} (f : X → List Y) (xs : List X) (y : Y) → IsOneOf (flat_map f xs) y → (x : X) × IsOneOf xs x × IsOneOf (f x) y
flat_one f [] y one = absurd one
flat_one f (first ∷ rest) y one = elim (one_of_both (f first) (flat_map f rest) y one) [
  | inl here ↦ (first, inl refl, here)
  | inr behind ↦ (let later = flat_one f rest y behind in (later.0, inr later.1, later.2))
]

pub number_of : (pasts : List Past) (past : Past) → IsOneOf pasts past → IsOneOf (numbers pasts) past.number
number_of [] past one = one
number_of (first ∷ rest) past (inl is) = inl (ap (λ (p : Past). p.number) is)
number_of (first ∷ rest) past (inr later) = inr (number_of rest past later)

-- the present states of a row

pub now_at : {S : Type 0} (row : List (List S)) (states : List S) → AreNow row states → (i : ℕ) (none : S) → i < length row → IsNow (get_or row i []) (get_or states i none)
now_at [] states are i none less = absurd (omega arith)
now_at (history ∷ row) [] are i none less = absurd are
now_at (history ∷ row) (now ∷ states) are zero none less = are.0
now_at (history ∷ row) (now ∷ states) are (suc i) none less = now_at row states are.1 i none (omega arith)

pub now_many : {S : Type 0} (row : List (List S)) (states : List S) → AreNow row states → length states ≡ length row
now_many [] [] are = refl
now_many [] (now ∷ states) are = absurd are
now_many (history ∷ row) [] are = absurd are
now_many (history ∷ row) (now ∷ states) are = ap suc (now_many row states are.1)
