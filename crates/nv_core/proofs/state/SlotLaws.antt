-- Slots: numbers of one window have slots of their own, and what is owned of entries.
use Rattle.std.proofs.Common.{◌≡◌, ◌≢◌, ◌⊎◌, ℕ, ◌+◌, ◌*◌, ◌/◌, ◌%◌, ◌<◌, ◌≤◌, List, ◌∷◌, inl, inr, sym, ap, subst, ◌∙◌, arith, mul-le-mul_right}
use Rattle.std.proofs.lemmas.Bool.{cases_eq, cases_order}
use Rattle.std.proofs.lemmas.Nat.{div-add-mod'}
use Rattle.nv_core.specs.state.Words.{Sizes, Word, ENTRY, index, slot_of_entry}
use Rattle.nv_core.specs.state.Passes.{times, without}
use Rattle.nv_core.proofs.invariant.LockLaws.{times_here, times_else, times_without, times_without_else}

-- a greater quotient is at least one count more
pub more : (count p q : ℕ) → p < q → p * count + count ≤ q * count
more count p q below = let m = mul-le-mul_right count below in omega (arith, m)

-- numbers less than N apart have slots of their own
pub apart : (count one other : ℕ) → one < other → other < one + count → one % count ≢ other % count
apart count one other less near e =
    let a : one / count * count + one % count ≡ one = div-add-mod' one count in
    let b : other / count * count + other % count ≡ other = div-add-mod' other count in
    quotients (one / count) (other / count) a b (cases_order (one / count) (other / count))
  where
    quotients : (p q : ℕ) → p * count + one % count ≡ one → q * count + other % count ≡ other → (p ≡ q) ⊎ ((p < q) ⊎ (q < p)) → ⊥
    quotients p q a b (inl same) = let c : p * count ≡ q * count = ap (λ x. x * count) same in omega arith
    quotients p q a b (inr (inl below)) = let m = more count p q below in omega arith
    quotients p q a b (inr (inr above)) = let m = more count q p above in omega arith

-- ---- the entries owned, of some set of numbers

pub record Entries (sizes : Sizes) (Among : ℕ → Type 0) (owned : List Word) : Type 0 where
  pub filling : (number : ℕ) → Among number → times (ENTRY (slot_of_entry sizes number)) owned ≡ 1
  pub none : (slot : ℕ) → ((number : ℕ) → Among number → slot_of_entry sizes number ≢ slot) → times (ENTRY slot) owned ≡ 0

pub entries_same : (sizes : Sizes) (Old New : ℕ → Type 0) (old new : List Word) → ((n : ℕ) → New n → Old n) → ((n : ℕ) → Old n → New n)
    → ((slot : ℕ) → times (ENTRY slot) new ≡ times (ENTRY slot) old) → Entries sizes Old old → Entries sizes New new
entries_same sizes Old New old new from to is entries = record {
  filling = λ n at. is (slot_of_entry sizes n) ∙ entries.filling n (from n at);
  none = λ slot off. is slot ∙ entries.none slot (λ n at. off n (to n at));
}

entry_else : {slot other : ℕ} → slot ≢ other → ENTRY slot ≢ ENTRY other
entry_else ne e = ne (ap index e)

pub entries_more : (sizes : Sizes) (Old New : ℕ → Type 0) (owned : List Word) (next : ℕ)
    → ((n : ℕ) → New n → (n ≡ next) ⊎ Old n) → New next → ((n : ℕ) → Old n → New n × (slot_of_entry sizes n ≢ slot_of_entry sizes next))
    → Entries sizes Old owned → Entries sizes New (ENTRY (slot_of_entry sizes next) ∷ owned)
entries_more sizes Old New owned next from here to entries = record {
  filling = λ n at. elim (from n at) [
    | inl e ↦ subst (λ m. times (ENTRY (slot_of_entry sizes m)) (ENTRY (slot_of_entry sizes next) ∷ owned) ≡ 1) (sym e)
        (let z = entries.none (slot_of_entry sizes next) (λ n at. (to n at).1) in let t = times_here (ENTRY (slot_of_entry sizes next)) owned in omega (arith, z, t))
    | inr old ↦ times_else (ENTRY (slot_of_entry sizes n)) (ENTRY (slot_of_entry sizes next)) owned (entry_else (to n old).1) ∙ entries.filling n old
  ];
  none = λ slot off. times_else (ENTRY slot) (ENTRY (slot_of_entry sizes next)) owned (entry_else (λ e. off next here (sym e))) ∙ entries.none slot (λ n at. off n (to n at).0);
}

pub entries_less : (sizes : Sizes) (Old New : ℕ → Type 0) (owned : List Word) (next : ℕ)
    → ((n : ℕ) → Old n → (n ≡ next) ⊎ New n) → Old next → ((n : ℕ) → New n → Old n × (slot_of_entry sizes n ≢ slot_of_entry sizes next))
    → Entries sizes Old owned → Entries sizes New (without (ENTRY (slot_of_entry sizes next)) owned)
entries_less sizes Old New owned next from here to entries = record {
  filling = λ n at. times_without_else (ENTRY (slot_of_entry sizes n)) (ENTRY (slot_of_entry sizes next)) owned (entry_else (to n at).1) ∙ entries.filling n (to n at).0;
  none = λ slot off. elim (cases_eq slot (slot_of_entry sizes next)) [
    | inl e ↦ subst (λ i. times (ENTRY i) (without (ENTRY (slot_of_entry sizes next)) owned) ≡ 0) (sym e)
        (let one = entries.filling next here in
        let less = times_without (ENTRY (slot_of_entry sizes next)) owned (omega (arith, one)) in omega (arith, one, less))
    | inr ne ↦ times_without_else (ENTRY slot) (ENTRY (slot_of_entry sizes next)) owned (entry_else ne)
        ∙ entries.none slot (λ n at. elim (from n at) [ inl e ↦ (λ is. ne (sym is ∙ ap (slot_of_entry sizes) e)) | inr new ↦ off n new ])
  ];
}
