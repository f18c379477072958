-- Room: slots below a number, each among some once at most, are no more than that many.
use Rattle.std.proofs.Common.{arith, ◌≡◌, ◌≢◌, sym, ap, subst, inl, inr, ℕ, ◌+◌, ◌≤◌, true, false, true≢false, eqb, List, [], ◌∷◌, length, map, if◌then◌else◌}
use Rattle.std.specs.List.{AllByRecursion, IsDistinct, list_any}
use Rattle.std.proofs.lemmas.Bool.{cases_Bool, cases_lt}
use Rattle.std.proofs.lemmas.List.{length-map}
use Rattle.std.proofs.lemmas.Map.Steps.{length-le_from_distinct_below}
use Rattle.nv_table.specs.state.Views.{slot_times}
use Rattle.nv_table.proofs.steps.OwnedSlotLaws.{slot_here}

-- ---- a slot that is among some, and one that isn't

module _ {S : Type 0} (slot : ℕ) (first : ℕ × S) (rest : List (ℕ × S)) where
  times_met : eqb slot first.0 ≡ true → slot_times slot (first ∷ rest) ≡ 1 + slot_times slot rest
  times_met is = ap (λ b. (if b then 1 else 0) + slot_times slot rest) is

  times_past : eqb slot first.0 ≡ false → slot_times slot (first ∷ rest) ≡ 0 + slot_times slot rest
  times_past is = ap (λ b. (if b then 1 else 0) + slot_times slot rest) is

no_other : {S : Type 0} (slot : ℕ) (slots : List (ℕ × S)) → slot_times slot slots ≡ 0 → AllByRecursion (λ other. eqb slot other ≡ false) (map (λ one. one.0) slots)
no_other slot [] none = tt
no_other slot (first ∷ rest) none = elim (cases_Bool (eqb slot first.0)) [
  | inl is ↦ absurd (let e = times_met slot first rest is in omega (arith, e, none))
  | inr not_so ↦ (not_so, no_other slot rest (let e = times_past slot first rest not_so in omega (arith, e, none)))
]

one_there : {S : Type 0} (slot : ℕ) (slots : List (ℕ × S)) → list_any (eqb slot) (map (λ one. one.0) slots) ≡ true → slot_times slot slots ≢ 0
one_there slot [] any none = absurd (true≢false (sym any))
one_there slot (first ∷ rest) any none = elim (cases_Bool (eqb slot first.0)) [
  | inl is ↦ let e = times_met slot first rest is in omega (arith, e, none)
  | inr not_so ↦
      one_there slot rest (rw not_so at any) (let e = times_past slot first rest not_so in omega (arith, e, none))
]

-- ---- how many there are

all_apart : {S : Type 0} (slots : List (ℕ × S)) → ((slot : ℕ) → slot_times slot slots ≤ 1) → IsDistinct eqb (map (λ one. one.0) slots)
unfolding IsDistinct
all_apart [] once = tt
all_apart (first ∷ rest) once = (
  no_other first.0 rest (let here = slot_here first.0 first.1 rest in let one = once first.0 in omega (arith, here, one)),
  all_apart rest (λ slot. let one = once slot in omega (arith, one)),
)

pub few_of : {S : Type 0} (slots : List (ℕ × S)) (n : ℕ) → ((slot : ℕ) → slot_times slot slots ≤ 1) → ((slot : ℕ) → n ≤ slot → slot_times slot slots ≡ 0) → length slots ≤ n
few_of slots n once none =
    subst (λ count. count ≤ n) (length-map slots (λ one. one.0))
    (length-le_from_distinct_below (map (λ one. one.0) slots) n (all_apart slots once)
    (λ slot any. elim (cases_lt slot n) [ inl low ↦ low | inr high ↦ absurd (one_there slot slots any (none slot high)) ]))
