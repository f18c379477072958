-- Lists of calls, one behind the other.
use Rattle.std.proofs.Common.{◌≡◌, ℕ, zero, suc, ◌+◌, ◌-◌, ◌<◌, ◌≤◌, List, [], ◌∷◌, ◌++◌, length, map, get_or, inl, inr, refl, ap, ◌∙◌, arith, add-one, length-append}
use Rattle.std.specs.Prelude.{◌⊎◌, All}
use Rattle.std.specs.List.Sorted.{IsNonDecreasingBy, IsStrictlyIncreasing}
use Rattle.std.proofs.lemmas.Bool.{cases_lt}
use Rattle.std.proofs.lemmas.List.{get_or-append-add, get_or_append_left}
use Rattle.std.proofs.lemmas.List.Elements.{All-append, All-head, All-tail}
use Rattle.nv_core.specs.state.Passes.{IsOneOf}
use Rattle.nv_runner.specs.Histories.{AreAtPlaces, ComesBefore, KeepOrder, PlacedCall}
use Rattle.nv_runner.specs.StreamRounds.{StandInTurn}
use Rattle.nv_runner.proofs.histories.HistoryMembers.{of_each, of_one, one_mapped}
use Rattle.nv_runner.proofs.LifeLaws.{Rising, falls_nowhere}

-- ---- lists that rise

-- what stands behind the first part
at_right : {X : Type 0} (xs ys : List X) (j : ℕ) (d : X) → length xs ≤ j → get_or (xs ++ ys) j d ≡ get_or ys (j - length xs) d
at_right xs ys j d behind = (let is : j ≡ length xs + (j - length xs) = omega arith in ap (λ n. get_or (xs ++ ys) n d) is) ∙ get_or-append-add xs ys (j - length xs) d

-- the numbers of one part lie below this one, and those of the other don't
pub falls_not_joined : {X : Type 0} (key : X → ℕ) (n : ℕ) (xs ys : List X) → IsNonDecreasingBy key xs → IsNonDecreasingBy key ys → All (λ x. key x ≤ n) xs → All (λ y. n ≤ key y) ys → IsNonDecreasingBy key (xs ++ ys)
falls_not_joined key n xs ys first second low high i j d before within =
    let long = length-append xs ys in
    elim (cases_lt j (length xs)) [
      | inl left ↦ (
          let rises = first i j d before left in
          let one = ap key (get_or_append_left xs ys d i (omega arith)) in
          let other = ap key (get_or_append_left xs ys d j left) in
          omega (arith, rises, one, other)
          )
      | inr right ↦ elim (cases_lt i (length xs)) [
        | inl left ↦ (
            let one = ap key (get_or_append_left xs ys d i left) in
            let other = ap key (at_right xs ys j d right) in
            let below = low i d left in
            let above = high (j - length xs) d (omega (arith, long, within, right)) in
            omega (arith, one, other, below, above)
            )
        | inr both ↦ (
            let one = ap key (at_right xs ys i d both) in
            let other = ap key (at_right xs ys j d right) in
            let rises = second (i - length xs) (j - length xs) d (omega (arith, before, both)) (omega (arith, long, within, right)) in
            omega (arith, rises, one, other)
            )
      ]
    ]

pub rising_joined : (n : ℕ) (xs ys : List ℕ) → IsStrictlyIncreasing xs → IsStrictlyIncreasing ys → All (λ x. x < n) xs → All (λ y. n ≤ y) ys → IsStrictlyIncreasing (xs ++ ys)
rising_joined n xs ys first second low high k within =
    let long = length-append xs ys in
    elim (cases_lt (k + 1) (length xs)) [
      | inl left ↦ (
          let rises = first k left in
          let one = get_or_append_left xs ys 0 k (omega arith) in
          let other = get_or_append_left xs ys 0 (k + 1) left in
          omega (arith, rises, one, other)
          )
      | inr right ↦ elim (cases_lt k (length xs)) [
        | inl left ↦ (
            let one = get_or_append_left xs ys 0 k left in
            let other = at_right xs ys (k + 1) 0 right in
            let below = low k 0 left in
            let above = high (k + 1 - length xs) 0 (omega (arith, long, within, right)) in
            omega (arith, one, other, below, above)
            )
        | inr both ↦ (
            let one = at_right xs ys k 0 both in
            let other = at_right xs ys (k + 1) 0 right in
            let next : k + 1 - length xs ≡ k - length xs + 1 = omega (arith, both) in
            let rises = second (k - length xs) (omega (arith, long, within, both)) in
            let same = ap (λ i. get_or ys i 0) next in
            omega (arith, rises, one, other, same)
            )
      ]
    ]

-- each is as far above the first bound as there are numbers before it
as_high : (xs : List ℕ) (low k : ℕ) → IsStrictlyIncreasing xs → All (λ x. low ≤ x) xs → k < length xs → low + k ≤ get_or xs k 0
as_high xs low zero rises least within = let first = least 0 0 within in omega (arith, first)
as_high xs low (suc k) rises least within =
    let before = as_high xs low k rises least (omega arith) in
    let up = rises k (omega arith) in
    let same = ap (λ i. get_or xs i 0) (add-one k) in
    omega (arith, before, up, same)

-- so there are no more of them than numbers from the bound on
pub rising_few : (xs : List ℕ) (low high : ℕ) → IsStrictlyIncreasing xs → All (λ x. low ≤ x) xs → All (λ x. x < high) xs → low ≤ high → length xs + low ≤ high
rising_few [] low high rises least most order = omega (arith, order)
rising_few (x ∷ xs) low high rises least most order =
    let last = as_high (x ∷ xs) low (length xs) rises least (omega arith) in
    let below = most (length xs) 0 (omega arith) in
    omega (arith, last, below)

-- ---- calls that stand in turn

pub turn_joined : (round : ℕ) (xs ys : List PlacedCall) → StandInTurn xs → StandInTurn ys → All (λ x. x.call.round < round) xs → All (λ y. y.call.round ≡ round) ys → StandInTurn (xs ++ ys)
turn_joined round [] ys first second before here = second
turn_joined round (x ∷ xs) ys first second before here =
    let less = All-head (λ (x : PlacedCall). x.call.round < round) x xs before in
    let later : All (λ (q : PlacedCall). (x.call.round < q.call.round) ⊎ (x.place ≤ q.place)) ys =
    λ k d within. (let is = here k d within in inl (omega (arith, less, is))) in
    (All-append (λ (q : PlacedCall). (x.call.round < q.call.round) ⊎ (x.place ≤ q.place)) xs ys first.0 later, turn_joined round xs ys first.1 second (All-tail (λ (x : PlacedCall). x.call.round < round) x xs before) here)

-- those that don't fall by place do
pub turn_by_place : (xs : List PlacedCall) → IsNonDecreasingBy (λ p. p.place) xs → StandInTurn xs
turn_by_place [] rises = tt
turn_by_place (x ∷ xs) rises =
    (λ k d within. inr (rises 0 (suc k) d (omega arith) (omega (arith, within))), turn_by_place xs (λ i j d before within. rises (suc i) (suc j) d (omega (arith, before)) (omega (arith, within))))

-- ---- the order of places

at_least : (from : ℕ) (calls : List PlacedCall) (p : PlacedCall) → AreAtPlaces from calls → IsOneOf calls p → from ≤ p.place
at_least from [] p at one = absurd one
at_least from (first ∷ later) p at (inl is) = let same = ap (λ (p : PlacedCall). p.place) is in let here = at.0 in omega (arith, same, here)
at_least from (first ∷ later) p at (inr one) = let more = at_least (from + 1) later p at.1 one in omega (arith, more)

-- at places that keep the order, one of an earlier round stands first
pub earlier_first : (from : ℕ) (calls : List PlacedCall) (p q : PlacedCall) → AreAtPlaces from calls → KeepOrder (map (λ (p : PlacedCall). p.call) calls) → IsOneOf calls p → IsOneOf calls q → p.call.round < q.call.round → p.place ≤ q.place
earlier_first from [] p q at order one other less = absurd one
earlier_first from (first ∷ later) p q at order (inl is_p) (inl is_q) less =
    absurd (let same = ap (λ (p : PlacedCall). p.call.round) is_p in let also = ap (λ (p : PlacedCall). p.call.round) is_q in omega (arith, same, also, less))
earlier_first from (first ∷ later) p q at order (inl is_p) (inr other) less =
    let same = ap (λ (p : PlacedCall). p.place) is_p in
    let here = at.0 in
    let more = at_least (from + 1) later q at.1 other in
    omega (arith, same, here, more)
earlier_first from (first ∷ later) p q at order (inr one) (inl is_q) less =
    absurd (of_one (λ other. ComesBefore other first.call → ⊥) (map (λ (p : PlacedCall). p.call) later) p.call order.0 (one_mapped (λ (p : PlacedCall). p.call) later p one)
    (inl (let same = ap (λ (p : PlacedCall). p.call.round) is_q in omega (arith, same, less))))
earlier_first from (first ∷ later) p q at order (inr one) (inr other) less = earlier_first (from + 1) later p q at.1 order.1 one other less

rises_in_turn : (calls xs : List PlacedCall) → AreAtPlaces 0 calls → KeepOrder (map (λ (p : PlacedCall). p.call) calls) → ((x : PlacedCall) → IsOneOf xs x → IsOneOf calls x) → StandInTurn xs → Rising (λ (p : PlacedCall). p.place) xs
rises_in_turn calls [] at order among turn = tt
rises_in_turn calls (x ∷ xs) at order among turn = (
  of_each (λ (y : PlacedCall). x.place ≤ y.place) xs (λ y one.
      elim (of_one (λ (q : PlacedCall). (x.call.round < q.call.round) ⊎ (x.place ≤ q.place)) xs y turn.0 one) [
        | inl less ↦ earlier_first 0 calls x y at order (among x (inl refl)) (among y (inr one)) less
        | inr up ↦ up
      ]),
  rises_in_turn calls xs at order (λ y one. among y (inr one)) turn.1,
)

-- so do those that stand in turn
pub places_in_turn : (calls xs : List PlacedCall) → AreAtPlaces 0 calls → KeepOrder (map (λ (p : PlacedCall). p.call) calls) → ((x : PlacedCall) → IsOneOf xs x → IsOneOf calls x) → StandInTurn xs → IsNonDecreasingBy (λ p. p.place) xs
places_in_turn calls xs at order among turn = falls_nowhere (λ (p : PlacedCall). p.place) xs (rises_in_turn calls xs at order among turn)
