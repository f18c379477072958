-- Where the bytes lie that were written since the last sync: what a write and a sync make of that.
use Rattle.std.proofs.Common.{◌≡◌, ℕ, ◌+◌, ◌-◌, ◌<◌, ◌≤◌, ◌||◌, min, Bool, true, false, List, ◌++◌, length, get_or, take, drop, replicate, refl, sym, ap, ◌∙◌, arith, inl, inr, ◌⊎◌}
use Rattle.std.proofs.lemmas.Bool.{cases_lt}
use Rattle.std.proofs.lemmas.List.{length-append, length-take, length-drop, length-replicate, get_or_append_left, get_or-append_right, get_or-take, get_or-drop, get_or-replicate, get_or_past, ext_get_or}
use Rattle.nv_store.specs.Store.{Store, IsWholeStore, is_in_range, marked}
use Rattle.nv_store.specs.Spans.{LieWithin, DifferWithin}
use Rattle.nv_store.proofs.Flags.{below_range, above_range, flag-marked, flag-marked_past}

-- a front of the marks lies where they do
pub front_within : (from to len : ℕ) (flags : List Bool) → LieWithin from to flags → LieWithin from to (take len flags)
front_within from to len flags within = record {
  others = λ i out. elim (cases_lt i len) [
    | inl inside ↦ get_or-take len flags i false inside ∙ within.others i out
    | inr past ↦ get_or_past (take len flags) i false (omega (arith, length-take len flags))
  ];
}

-- A write widens the span by its range, as far as there are bytes.
pub marked_within : (from to low high at count len : ℕ) (flags : List Bool) → low ≤ from → low ≤ at → to ≤ high → (at + count ≤ high) ⊎ (len ≤ high)
    → LieWithin from to flags → LieWithin low high (marked at count len flags)
marked_within from to low high at count len flags lower first higher ends within = record {
  others = λ i out. elim (cases_lt i len) [
    | inl inside ↦
        flag-marked at count len flags i inside
        ∙ ap (λ test. test || get_or flags i false) (aside i inside out)
        ∙ within.others i (was i out)
    | inr past ↦ flag-marked_past at count len flags i past
  ];
}
  where
    was : (i : ℕ) → (i < low) ⊎ (high ≤ i) → (i < from) ⊎ (to ≤ i)
    was i (inl below) = inl (omega arith)
    was i (inr above) = inr (omega arith)

    aside : (i : ℕ) → i < len → (i < low) ⊎ (high ≤ i) → is_in_range at count i ≡ false
    aside i inside (inl below) = below_range at count i (omega arith)
    aside i inside (inr above) = elim ends [
      | inl last ↦ above_range at count i (omega arith)
      | inr short ↦ absurd (omega arith)
    ]

-- the durable bytes of a whole store are those that reads give, but where some were written since
pub durable_differs_within : (store : Store) (from to : ℕ) → IsWholeStore store → LieWithin from to store.unsynced → DifferWithin from to store.durable store.seen
durable_differs_within store from to whole within = record { same = λ i out inside. sym (whole.synced i (within.others i out)) }

-- a list in whose range another's elements were put
module _ {A : Type 0} (d : A) (old middle : List A) (from end : ℕ) (long : end ≤ length old) (some : from < end) (many : length middle ≡ end - from) where
  abbrev put : List A
  put = take from old ++ (middle ++ drop (end - from) (drop from old))

  length-put : length put ≡ length old
  length-put = simp (length-append, length-take, length-drop) (omega arith)

  put_below : (i : ℕ) → i < from → get_or put i d ≡ get_or old i d
  put_below i below =
      get_or_append_left (take from old) _ d i (omega (arith, length-take from old)) ∙ get_or-take from old i d below

  put_inside : (i : ℕ) → from ≤ i → i < end → get_or put i d ≡ get_or middle (i - from) d
  put_inside i low high =
      get_or-append_right (take from old) _ from i d (omega (arith, length-take from old)) low
      ∙ get_or_append_left middle _ d (i - from) (omega arith)

  put_above : (i : ℕ) → end ≤ i → get_or put i d ≡ get_or old i d
  put_above i above =
      get_or-append_right (take from old) _ from i d (omega (arith, length-take from old)) (omega arith)
      ∙ get_or-append_right middle _ (end - from) (i - from) d many (omega arith)
      ∙ get_or-drop (end - from) (drop from old) (i - from - (end - from)) d
      ∙ get_or-drop from old (end - from + (i - from - (end - from))) d
      ∙ ap (λ k. get_or old k d) (omega arith)

-- Where all marks lie within a range that is cleared, none is left.
pub cleared : (from to end : ℕ) (flags : List Bool) → LieWithin from to flags → end ≡ min to (length flags) → from < end
    → take from flags ++ (replicate (end - from) false ++ drop (end - from) (drop from flags)) ≡ replicate (length flags) false
cleared from to end flags within ends some =
    ext_get_or false _ (replicate (length flags) false)
    (length-put false flags middle from end (omega arith) some many ∙ sym (length-replicate (length flags) false))
    (λ i inside. let here : i < length flags = omega (arith, inside, length-put false flags middle from end (omega arith) some many) in
    each i here ∙ sym (get_or-replicate (length flags) i false false here))
  where
    middle : List Bool
    middle = replicate (end - from) false

    many : length middle ≡ end - from
    many = length-replicate (end - from) false

    each : (i : ℕ) → i < length flags → get_or (put false flags middle from end (omega arith) some many) i false ≡ false
    each i inside = elim (cases_lt i from) [
      | inl below ↦ put_below false flags middle from end (omega arith) some many i below ∙ within.others i (inl below)
      | inr low ↦ elim (cases_lt i end) [
        | inl high ↦ put_inside false flags middle from end (omega arith) some many i low high ∙ get_or-replicate (end - from) (i - from) false false (omega arith)
        | inr above ↦ put_above false flags middle from end (omega arith) some many i above ∙ within.others i (inr (omega arith))
      ]
    ]

-- and where none can be in such a range, there is none at all
pub clear_already : (from to : ℕ) (flags : List Bool) → LieWithin from to flags → min to (length flags) ≤ from → flags ≡ replicate (length flags) false
clear_already from to flags within none =
    ext_get_or false flags (replicate (length flags) false) (sym (length-replicate (length flags) false))
    (λ i inside. within.others i (aside i inside) ∙ sym (get_or-replicate (length flags) i false false inside))
  where
    aside : (i : ℕ) → i < length flags → (i < from) ⊎ (to ≤ i)
    aside i inside = elim (cases_lt i from) [ inl below ↦ inl below | inr low ↦ inr (omega arith) ]

-- Bytes that differ within a range, in which the others are put.
pub settled : (from to end : ℕ) (bytes others : List ℕ) → DifferWithin from to bytes others → length bytes ≤ length others → end ≡ min to (length bytes) → from < end
    → take from bytes ++ (take (end - from) (drop from others) ++ drop (end - from) (drop from bytes)) ≡ take (length bytes) others
settled from to end bytes others differ long ends some =
    ext_get_or 0 _ (take (length bytes) others)
    (length-put 0 bytes middle from end (omega arith) some many ∙ sym all)
    (λ i inside. let here : i < length bytes = omega (arith, inside, length-put 0 bytes middle from end (omega arith) some many) in
    each i here ∙ sym (get_or-take (length bytes) others i 0 here))
  where
    middle : List ℕ
    middle = take (end - from) (drop from others)

    many : length middle ≡ end - from
    many = omega (arith, length-take (end - from) (drop from others), length-drop from others)

    all : length (take (length bytes) others) ≡ length bytes
    all = omega (arith, length-take (length bytes) others)

    each : (i : ℕ) → i < length bytes → get_or (put 0 bytes middle from end (omega arith) some many) i 0 ≡ get_or others i 0
    each i inside = elim (cases_lt i from) [
      | inl below ↦ put_below 0 bytes middle from end (omega arith) some many i below ∙ differ.same i (inl below) inside
      | inr low ↦ elim (cases_lt i end) [
        | inl high ↦
            put_inside 0 bytes middle from end (omega arith) some many i low high
            ∙ get_or-take (end - from) (drop from others) (i - from) 0 (omega arith)
            ∙ get_or-drop from others (i - from) 0
            ∙ ap (λ k. get_or others k 0) (omega arith)
        | inr above ↦ put_above 0 bytes middle from end (omega arith) some many i above ∙ differ.same i (inr (omega arith)) inside
      ]
    ]

pub settled_already : (from to : ℕ) (bytes others : List ℕ) → DifferWithin from to bytes others → length bytes ≤ length others → min to (length bytes) ≤ from
    → bytes ≡ take (length bytes) others
settled_already from to bytes others differ long none =
    ext_get_or 0 bytes (take (length bytes) others) (omega (arith, length-take (length bytes) others))
    (λ i inside. differ.same i (aside i inside) inside ∙ sym (get_or-take (length bytes) others i 0 inside))
  where
    aside : (i : ℕ) → i < length bytes → (i < from) ⊎ (to ≤ i)
    aside i inside = elim (cases_lt i from) [ inl below ↦ inl below | inr low ↦ inr (omega arith) ]
