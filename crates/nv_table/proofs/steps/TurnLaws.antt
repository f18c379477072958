-- Slots that stand in another order are the same ones; and how a row turns, one by one.
use Rattle.std.proofs.Common.{arith, ◌≡◌, ◌≢◌, refl, sym, ap, ◌∙◌, subst, ℕ, zero, suc, ◌+◌, ◌<◌, ◌≤◌, ◌==◌, false, List, [], ◌∷◌, ◌++◌, length, take, drop, map, slice_index, slice_index_or, slice_set, ◌-◌, if◌then◌else◌}
use Rattle.std.proofs.lemmas.List.{append_assoc, take_more, drop_more, take-append-drop, drop-map, take-map, map-append}
use Rattle.std.proofs.lemmas.Bool.{ne_eqb}
use Rattle.std.specs.Prelude.{Some}
use Rattle.atomic_table.specs.Table.{turned}
use Rattle.nv_table.specs.steps.SeatSteps.{IsFirst}
use Rattle.nv_table.specs.state.Views.{slot_times}

-- all but the first of a row move down, one by one
moved_from : {X : Type 0} (x : X) (ys : List X) (i : ℕ) (d : X) → i < length ys
    → slice_set (take i ys ++ drop i (x ∷ ys)) i (slice_index_or (take i ys ++ drop i (x ∷ ys)) (suc i) d) ≡ take (suc i) ys ++ drop (suc i) (x ∷ ys)
moved_from x (y ∷ zs) zero d less = refl
moved_from x (y ∷ zs) (suc i) d less = ap (λ l. y ∷ l) (moved_from y zs i d (omega (arith, less)))
moved_from x [] i d less = absurd (omega (arith, less))

pub moved_down : {X : Type 0} (xs row : List X) (i : ℕ) (d : X) → i < length xs - 1 → row ≡ take i (drop 1 xs) ++ drop i xs
    → slice_set row i (slice_index_or row (i + 1) d) ≡ take (i + 1) (drop 1 xs) ++ drop (i + 1) xs
moved_down (x ∷ ys) row i d less so_far =
    let same : suc i ≡ i + 1 = omega arith in
    rw (so_far) (subst (λ n. slice_set (take i ys ++ drop i (x ∷ ys)) i (slice_index_or (take i ys ++ drop i (x ∷ ys)) n d) ≡ take n ys ++ drop n (x ∷ ys)) same
    (moved_from x ys i d (omega (arith, less))))
moved_down [] row i d less so_far = absurd (omega (arith, less))

-- and the first one comes behind them
comes_last : {X : Type 0} (x v : X) (ys : List X) → slice_set (take (length ys) ys ++ drop (length ys) (x ∷ ys)) (length ys) v ≡ ys ++ v ∷ []
comes_last x v [] = refl
comes_last x v (y ∷ zs) = ap (λ l. y ∷ l) (comes_last y v zs)

pub all_moved : {X : Type 0} (xs row : List X) (i : ℕ) (d : X) → 0 < length xs → i ≡ length xs - 1 → row ≡ take i (drop 1 xs) ++ drop i xs
    → slice_set row (length xs - 1) (slice_index_or xs 0 d) ≡ drop 1 xs ++ take 1 xs
all_moved (x ∷ ys) row i d some over so_far =
    let last : i ≡ length ys = omega (arith, over) in
    let same : length (x ∷ ys) - 1 ≡ length ys = omega arith in
    rw (so_far, last, same) (comes_last x x ys)
all_moved [] row i d some over so_far = absurd (omega (arith, some))

-- one more turn of a row
pub once_more : {X : Type 0} (i : ℕ) (xs : List X) → i < length xs → drop 1 (drop i xs ++ take i xs) ++ take 1 (drop i xs ++ take i xs) ≡ drop (i + 1) xs ++ take (i + 1) xs
once_more i (x ∷ xs) less =
    rw (drop_more (x ∷ xs) i x less, take_more (x ∷ xs) i x less) (append_assoc (drop (i + 1) (x ∷ xs)) (take i (x ∷ xs)) (slice_index_or (x ∷ xs) i x ∷ []))
once_more i [] less = absurd (omega (arith, less))

turned_is : {S : Type 0} (xs : List (ℕ × S)) → turned xs ≡ drop 1 xs ++ take 1 xs
turned_is [] = refl
turned_is (x ∷ xs) = refl

-- and of slots
pub turned_more : {S : Type 0} (i : ℕ) (xs : List (ℕ × S)) → i < length xs → turned (drop i xs ++ take i xs) ≡ drop (i + 1) xs ++ take (i + 1) xs
turned_more i xs less = turned_is (drop i xs ++ take i xs) ∙ once_more i xs less

-- how often a slot stands among them
times_both : {S : Type 0} (slot : ℕ) (xs ys : List (ℕ × S)) → slot_times slot (xs ++ ys) ≡ slot_times slot xs + slot_times slot ys
times_both slot [] ys = omega arith
times_both slot (x ∷ xs) ys = let more = times_both slot xs ys in omega (arith, more)

pub times_turned : {S : Type 0} (slot i : ℕ) (xs : List (ℕ × S)) → slot_times slot (drop i xs ++ take i xs) ≡ slot_times slot xs
times_turned slot i xs =
    let front = times_both slot (drop i xs) (take i xs) in
    let whole = times_both slot (take i xs) (drop i xs) in
    let same = ap (slot_times slot) (take-append-drop i xs) in omega (arith, front, whole, same)

pub times_shown : {S T : Type 0} (shown : S → T) (slot : ℕ) (xs : List (ℕ × S)) → slot_times slot (map (λ one. (one.0, shown one.1)) xs) ≡ slot_times slot xs
times_shown shown slot [] = refl
times_shown shown slot (x ∷ xs) = ap (λ n. (if slot == x.0 then 1 else 0) + n) (times_shown shown slot xs)

pub map_turned : {S T : Type 0} (f : S → T) (i : ℕ) (xs : List S) → map f (drop i xs ++ take i xs) ≡ drop i (map f xs) ++ take i (map f xs)
map_turned f i xs = map-append f (drop i xs) (take i xs) ∙ sym (rw (drop-map f i xs, take-map f i xs) refl)

-- a slot that stands among some stands at some place
pub stands_before : {S : Type 0} (slot place : ℕ) (xs : List (ℕ × S)) → slot_times slot xs ≢ 0
    → ((i : ℕ) → i < place → slice_index (map (λ one. one.0) xs) i ≢ slot) → place ≤ length xs → place < length xs
stands_before slot place [] some before less = absurd (some refl)
stands_before slot zero (x ∷ xs) some before less = omega arith
stands_before slot (suc place) (x ∷ xs) some before less =
    let other : x.0 ≢ slot = before 0 (omega arith) in
    let rest : (if false then 1 else 0) + slot_times slot xs ≢ 0 =
    subst (λ b. (if b then 1 else 0) + slot_times slot xs ≢ 0) (ne_eqb slot x.0 (λ e. other (sym e))) some in
    let more = stands_before slot place xs (λ z. rest (omega (arith, z))) (λ i near. before (suc i) (omega (arith, near))) (omega (arith, less)) in
    omega (arith, more)

-- and then it is the first from that place on
pub first_from : {S : Type 0} (slot place : ℕ) (xs ys : List (ℕ × S)) → place < length xs → slice_index (map (λ one. one.0) xs) place ≡ slot
    → IsFirst (Some slot) (drop place xs ++ ys)
first_from slot zero (x ∷ xs) ys less is = (x.1, ap (λ n. (n, x.1) ∷ (xs ++ ys)) is)
first_from slot (suc place) (x ∷ xs) ys less is = first_from slot place xs ys (omega (arith, less)) is
first_from slot place [] ys less is = absurd (omega (arith, less))

-- what the first of some slots is
abbrev pub first_slot : {S : Type 0} → List (ℕ × S) → ℕ
first_slot [] = 0
first_slot (x ∷ xs) = x.0

pub first_is : {S : Type 0} (slot : ℕ) (x : ℕ × S) (xs : List (ℕ × S)) → IsFirst (Some slot) (x ∷ xs) → x.0 ≡ slot
first_is slot x xs first = ap first_slot first.1

no_first : {S : Type 0} (slot : ℕ) → IsFirst {S = S} (Some slot) [] → ⊥
no_first slot first = let many = ap length first.1 in omega (arith, many)

-- a slot stands first where it does among what the slots show, and the other way round
pub first_shown : {S T : Type 0} (shown : S → T) (slot : ℕ) (xs : List (ℕ × S)) → IsFirst (Some slot) xs → IsFirst (Some slot) (map (λ one. (one.0, shown one.1)) xs)
first_shown shown slot (x ∷ xs) first = (shown x.1, ap (λ n. (n, shown x.1) ∷ map (λ one. (one.0, shown one.1)) xs) (first_is slot x xs first))
first_shown shown slot [] first = absurd (no_first slot first)

pub first_held : {S T : Type 0} (shown : S → T) (slot : ℕ) (xs : List (ℕ × S)) → IsFirst (Some slot) (map (λ one. (one.0, shown one.1)) xs) → IsFirst (Some slot) xs
first_held shown slot (x ∷ xs) first = (x.1, ap (λ n. (n, x.1) ∷ xs) (first_is slot (x.0, shown x.1) (map (λ one. (one.0, shown one.1)) xs) first))
first_held shown slot [] first = absurd (no_first slot first)
