-- Members: what is one of a list, and of what is made of it.
use Rattle.std.proofs.Common.{◌≡◌, ℕ, zero, suc, ◌<◌, List, [], ◌∷◌, ◌++◌, length, map, get_or, refl, sym, ap, subst, arith}
use Rattle.std.specs.Prelude.{◌⊎◌}
use Rattle.std.proofs.Common.{inl, inr}
use Rattle.std.specs.List.{All, Contains, flat_map}
use Rattle.std.specs.List.Sorted.{IsPermutation}
use Rattle.std.proofs.lemmas.List.Elements.{All-contains}
use Rattle.std.proofs.lemmas.List.Sorted.{Contains-permutation}
use Rattle.nv_core.specs.state.Passes.{IsOneOf}

-- ---- by places

pub contained : {X : Type 0} (xs : List X) (x : X) → IsOneOf xs x → Contains xs x
contained [] x one = absurd one
contained (first ∷ rest) x (inl is) = (0, omega arith, sym is)
contained (first ∷ rest) x (inr later) = let there = contained rest x later in (suc there.0, omega (arith, there.1), there.2)

-- what stands at a place
pub one_at : {X : Type 0} (xs : List X) (k : ℕ) (d x : X) → k < length xs → get_or xs k d ≡ x → IsOneOf xs x
one_at [] k d x within is = absurd (omega arith)
one_at (first ∷ rest) zero d x within is = inl (sym is)
one_at (first ∷ rest) (suc k) d x within is = inr (one_at rest k d x (omega arith) is)

pub of_each : {X : Type 0} (P : X → Type 0) (xs : List X) → ((x : X) → IsOneOf xs x → P x) → All P xs
of_each P xs each k d within = each (get_or xs k d) (one_at xs k d (get_or xs k d) within refl)

pub of_one : {X : Type 0} (P : X → Type 0) (xs : List X) (x : X) → All P xs → IsOneOf xs x → P x
of_one P xs x all one = All-contains P xs x all (contained xs x one)

pub one_moved : {X : Type 0} (xs ys : List X) (x : X) → IsPermutation xs ys → IsOneOf xs x → IsOneOf ys x
one_moved xs ys x moved one = let there = Contains-permutation xs ys x moved (contained xs x one) in one_at ys there.0 x x there.1 there.2

-- ---- of lists that are joined

pub one_left : {X : Type 0} (xs ys : List X) (x : X) → IsOneOf xs x → IsOneOf (xs ++ ys) x
one_left [] ys x one = absurd one
one_left (first ∷ rest) ys x (inl is) = inl is
one_left (first ∷ rest) ys x (inr later) = inr (one_left rest ys x later)

pub one_right : {X : Type 0} (xs ys : List X) (x : X) → IsOneOf ys x → IsOneOf (xs ++ ys) x
one_right [] ys x one = one
one_right (first ∷ rest) ys x one = inr (one_right rest ys x one)

pub one_either : {X : Type 0} (xs ys : List X) (x : X) → IsOneOf (xs ++ ys) x → IsOneOf xs x ⊎ IsOneOf ys x
one_either [] ys x one = inr one
one_either (first ∷ rest) ys x (inl is) = inl (inl is)
one_either (first ∷ rest) ys x (inr later) = elim (one_either rest ys x later) [ inl left ↦ inl (inr left) | inr right ↦ inr right ]

pub one_mapped : {X Y : Type 0} (f : X → Y) (xs : List X) (x : X) → IsOneOf xs x → IsOneOf (map f xs) (f x)
one_mapped f [] x one = absurd one
one_mapped f (first ∷ rest) x (inl is) = inl (ap f is)
one_mapped f (first ∷ rest) x (inr later) = inr (one_mapped f rest x later)

pub one_of_mapped : {X Y : Type 0} (f : X → Y) (xs : List X) (y : Y) → IsOneOf (map f xs) y → (x : X) × IsOneOf xs x × (f x ≡ y)
one_of_mapped f [] y one = absurd one
one_of_mapped f (first ∷ rest) y (inl is) = (first, inl refl, sym is)
one_of_mapped f (first ∷ rest) y (inr later) = let found = one_of_mapped f rest y later in (found.0, inr found.1, found.2)

pub one_in_joined : {X Y : Type 0} (f : X → List Y) (xs : List X) (x : X) (y : Y) → IsOneOf xs x → IsOneOf (f x) y → IsOneOf (flat_map f xs) y
one_in_joined f [] x y one there = absurd one
one_in_joined f (first ∷ rest) x y (inl is) there = one_left (f first) (flat_map f rest) y (subst (λ v. IsOneOf (f v) y) is there)
one_in_joined f (first ∷ rest) x y (inr later) there = one_right (f first) (flat_map f rest) y (one_in_joined f rest x y later there)

pub one_of_joined : {X Y : Type 0} (f : X → List Y) (xs : List X) (y : Y) → IsOneOf (flat_map f xs) y → (x : X) × IsOneOf xs x × IsOneOf (f x) y
one_of_joined f [] y one = absurd one
one_of_joined f (first ∷ rest) y one = elim (one_either (f first) (flat_map f rest) y one) [
  | inl here ↦ (first, inl refl, here)
  | inr later ↦ (let found = one_of_joined f rest y later in (found.0, inr found.1, found.2))
]
