-- Totals: what a change in one place makes of them.
use Rattle.std.proofs.Common.{◌≡◌, ◌≢◌, ℕ, zero, suc, ◌+◌, ◌<◌, ◌≤◌, ◌==◌, Bool, if◌then◌else◌, inl, inr, refl, sym, ap, subst, arith}
use Rattle.std.proofs.lemmas.Bool.{cases_eq, ne_eqb}
use Rattle.nv_core.specs.state.Totals.{total}
use Rattle.nv_core.specs.state.Core.{with_number}
use Rattle.nv_core.specs.invariant.Locks.{Keyed}
use Rattle.nv_core.proofs.state.Changes.{number_here, number_else}
use Rattle.nv_core.proofs.state.Choices.{when_false}
use Rattle.nv_core.proofs.invariant.LockLaws.{only_holder}

-- the same values have the same total
pub total_same : (count : ℕ) (old new : ℕ → ℕ) → ((n : ℕ) → n < count → new n ≡ old n) → total count new ≡ total count old
unfolding total
total_same zero old new is = refl
total_same (suc count) old new is = let a = total_same count old new (λ n less. is n (omega arith)) in let b = is count (omega arith) in omega (arith, a, b)

-- where one value changes, the total changes with it
pub total_at : (count at : ℕ) (old new : ℕ → ℕ) → at < count → ((n : ℕ) → n ≢ at → new n ≡ old n) → total count new + old at ≡ total count old + new at
unfolding total
total_at zero at old new less is = absurd (omega arith)
total_at (suc count) at old new less is = elim (cases_eq at count) [
  | inl e ↦ subst (λ m. total (suc count) new + old m ≡ total (suc count) old + new m) (sym e)
      (let a = total_same count old new (λ n below. is n (λ same. omega (arith, same, below, e))) in omega (arith, a))
  | inr ne ↦ let a = total_at count at old new (omega arith) is in let b = is count (λ same. ne (sym same)) in omega (arith, a, b)
]

-- one number more
pub total_more : (count : ℕ) (value : ℕ → ℕ) → total (count + 1) value ≡ total count value + value count
unfolding total
total_more count value = subst (λ n. total n value ≡ total count value + value count) (suc_is count) refl
  where
    suc_is : (n : ℕ) → suc n ≡ n + 1
    suc_is n = omega arith

-- where the total is 0, so is each value
pub total_none : (count : ℕ) (value : ℕ → ℕ) → total count value ≡ 0 → (n : ℕ) → n < count → value n ≡ 0
unfolding total
total_none zero value none n less = absurd (omega (arith, less))
total_none (suc count) value none n less = elim (cases_eq n count) [
  | inl e ↦ subst (λ m. value m ≡ 0) (sym e) (omega (arith, none))
  | inr ne ↦ total_none count value (omega (arith, none)) n (omega (arith, less, ne))
]

-- of smaller values the total is smaller
pub total_most : (count : ℕ) (less more : ℕ → ℕ) → ((n : ℕ) → n < count → less n ≤ more n) → total count less ≤ total count more
unfolding total
total_most zero less more is = omega arith
total_most (suc count) less more is = let a = total_most count less more (λ n below. is n (omega (arith, below))) in let b = is count (omega arith) in omega (arith, a, b)

-- that of ones is how many there are
pub total_ones : (count : ℕ) → total count (λ n. 1) ≡ count
unfolding total
total_ones zero = refl
total_ones (suc count) = let a = total_ones count in omega (arith, a)

-- and that of zeros 0
pub total_zeros : (count : ℕ) (value : ℕ → ℕ) → ((n : ℕ) → n < count → value n ≡ 0) → total count value ≡ 0
unfolding total
total_zeros zero value is = refl
total_zeros (suc count) value is = let a = total_zeros count value (λ n below. is n (omega (arith, below))) in let b = is count (omega arith) in omega (arith, a, b)

-- A cell is among the owned cells of at most one pass.
pub total_keyed : (count : ℕ) (shut : Bool) (value : ℕ → ℕ) → Keyed shut value → total count value ≤ 1
unfolding total
total_keyed zero shut value keyed = omega arith
total_keyed (suc count) shut value keyed = elim (cases_eq (value count) 0) [
  | inl none ↦ let a = total_keyed count shut value keyed in omega (arith, a, none)
  | inr some ↦
      let held = only_holder keyed count (omega (arith, some)) in
      let one = held.1 in
      let others = total_zeros count value (λ n below. held.2 n (λ same. omega (arith, same, below))) in
      omega (arith, one, others)
]

-- more numbers have no smaller total
pub total_up_to : (few many : ℕ) (value : ℕ → ℕ) → few ≤ many → total few value ≤ total many value
unfolding total
total_up_to few zero value less = let none : few ≡ zero = omega (arith, less) in let same : total few value ≡ total zero value = ap (λ n. total n value) none in omega (arith, same)
total_up_to few (suc many) value less = elim (cases_eq few (suc many)) [
  | inl e ↦ let same : total few value ≡ total (suc many) value = ap (λ n. total n value) e in omega (arith, same)
  | inr ne ↦ let again = total_up_to few many value (omega (arith, less, ne)) in omega (arith, again)
]

-- ---- what is summed of passes

-- one of them changes
pub total_changed : {T : Type 0} (count at : ℕ) (value : T → ℕ) (f : ℕ → T) (now : T) → at < count → total count (λ n. value (with_number f at now n)) + value (f at) ≡ total count (λ n. value (f n)) + value now
total_changed count at value f now less =
    let changed = total_at count at (λ n. value (f n)) (λ n. value (with_number f at now n)) less (λ n ne. ap value (number_else f at now n ne)) in
    let here : value (with_number f at now at) ≡ value now = ap value (number_here f at now) in
    omega (arith, changed, here)

-- one more is made
pub total_made : {T : Type 0} (count : ℕ) (value : T → ℕ) (f : ℕ → T) (now : T) → total (count + 1) (λ n. value (with_number f count now n)) ≡ total count (λ n. value (f n)) + value now
total_made count value f now =
    let more = total_more count (λ n. value (with_number f count now n)) in
    let same = total_same count (λ n. value (f n)) (λ n. value (with_number f count now n)) (λ n less. ap value (number_else f count now n (λ e. omega (arith, e, less)))) in
    let here : value (with_number f count now count) ≡ value now = ap value (number_here f count now) in
    omega (arith, more, same, here)

-- and one is told apart from the others
pub total_apart : (count at : ℕ) (value : ℕ → ℕ) → total count value ≤ value at + total count (λ n. if n == at then 0 else value n)
unfolding total
total_apart zero at value = omega arith
total_apart (suc count) at value = elim (cases_eq count at) [
  | inl e ↦
      let same = total_same count value (λ n. if n == at then 0 else value n) (λ n below. when_false (n == at) 0 (value n) (ne_eqb n at (λ is. omega (arith, is, e, below)))) in
      let here : value count ≡ value at = ap value e in
      omega (arith, same, here)
  | inr ne ↦ let again = total_apart count at value in let here = when_false (count == at) 0 (value count) (ne_eqb count at ne) in omega (arith, again, here)
]
