-- The flags that a write marks.
use Rattle.std.proofs.Common.{◌≡◌, ℕ, ◌+◌, ◌-◌, ◌<◌, ◌≤◌, ◌||◌, min, Bool, true, false, List, ◌++◌, length, get_or, take, drop, replicate, refl, sym, ap, ◌∙◌, arith, inl, inr}
use Rattle.std.proofs.lemmas.Bool.{cases_lt}
use Rattle.std.proofs.lemmas.Bool.Decides.{nat_tests}
use Rattle.std.proofs.lemmas.List.{length-append, length-take, length-drop, length-replicate, get_or_append_left, get_or-append_right, get_or-take, get_or-drop, get_or-replicate, get_or_past}
use Rattle.std.proofs.lemmas.List.FromFn.{length-map-range_with_len, get_or-map-range_with_len, fill_by_all}
use Rattle.nv_store.specs.Store.{is_in_range, marked}

pub in_range : (at count i : ℕ) → at ≤ i → i < at + count → is_in_range at count i ≡ true
in_range at count i low high = grind (arith, nat_tests)

pub below_range : (at count i : ℕ) → i < at → is_in_range at count i ≡ false
below_range at count i below = grind (arith, nat_tests)

pub above_range : (at count i : ℕ) → at + count ≤ i → is_in_range at count i ≡ false
above_range at count i above = grind (arith, nat_tests)

module _ (at count len : ℕ) (flags : List Bool) where
  pub length-marked : length (marked at count len flags) ≡ len
  unfolding marked
  length-marked = length-map-range_with_len _ 0 len

  pub flag-marked : (i : ℕ) → i < len → get_or (marked at count len flags) i false ≡ (is_in_range at count i || get_or flags i false)
  unfolding marked
  flag-marked i inside = get_or-map-range_with_len (λ i. is_in_range at count i || get_or flags i false) 0 len i i false inside (omega arith)

  pub flag-marked_past : (i : ℕ) → len ≤ i → get_or (marked at count len flags) i false ≡ false
  flag-marked_past i past = get_or_past (marked at count len flags) i false (omega (arith, length-marked))

  -- flags that are the marked ones, one by one
  pub marked_by_each : (these : List Bool) → length these ≡ len
      → ((i : ℕ) → i < len → get_or these i false ≡ (is_in_range at count i || get_or flags i false)) → these ≡ marked at count len flags
  unfolding marked
  marked_by_each these all each = fill_by_all (λ i. is_in_range at count i || get_or flags i false) these len false all each

-- false past the end
flag-more : (flags : List Bool) (more i : ℕ) → get_or (flags ++ replicate more false) i false ≡ get_or flags i false
flag-more flags more i =
    elim (cases_lt i (length flags)) [
      | inl inside ↦ get_or_append_left flags (replicate more false) false i inside
      | inr past ↦
          get_or-append_right flags (replicate more false) (length flags) i false refl past
          ∙ (elim (cases_lt (i - length flags) more) [
            | inl less ↦ get_or-replicate more (i - length flags) false false less
            | inr over ↦ get_or_past (replicate more false) (i - length flags) false (omega (arith, length-replicate {A = Bool} more false))
          ])
          ∙ sym (get_or_past flags i false past)
    ]

-- flags that are false to begin with don't change what is marked
pub marked-more : (at count len more : ℕ) (flags : List Bool) → marked at count len (flags ++ replicate more false) ≡ marked at count len flags
marked-more at count len more flags =
    marked_by_each at count len flags (marked at count len (flags ++ replicate more false)) (length-marked at count len (flags ++ replicate more false))
    (λ i inside. flag-marked at count len (flags ++ replicate more false) i inside ∙ ap (λ flag. is_in_range at count i || flag) (flag-more flags more i))

-- a range of none marks none
pub marked_none : (at len : ℕ) (flags : List Bool) → length flags ≡ len → marked at 0 len flags ≡ flags
marked_none at len flags all =
    sym (marked_by_each at 0 len flags flags all
    (λ i inside. sym (ap (λ test. test || get_or flags i false) (not_in_none i))))
  where
    not_in_none : (i : ℕ) → is_in_range at 0 i ≡ false
    not_in_none i = grind (arith, nat_tests)

-- the range filled, as far as there are flags
pub marked_filled : (at count end : ℕ) (flags : List Bool) → end ≡ min (at + count) (length flags) → at < end
    → take at flags ++ (replicate (end - at) true ++ drop (end - at) (drop at flags)) ≡ marked at count (length flags) flags
marked_filled at count end flags ends some =
    marked_by_each at count (length flags) flags _ (simp (length-append, length-take, length-replicate, length-drop) (omega arith))
    (λ i inside. elim (cases_lt i at) [
      | inl below ↦
          get_or_append_left (take at flags) _ false i (omega (arith, length-take at flags))
          ∙ get_or-take at flags i false below
          ∙ ap (λ test. test || get_or flags i false) (sym (below_range at count i below))
      | inr low ↦
          get_or-append_right (take at flags) _ at i false (omega (arith, length-take at flags)) low
          ∙ (elim (cases_lt i end) [
            | inl high ↦
                get_or_append_left (replicate (end - at) true) _ false (i - at) (omega (arith, length-replicate {A = Bool} (end - at) true))
                ∙ get_or-replicate (end - at) (i - at) true false (omega arith)
                ∙ ap (λ test. test || get_or flags i false) (sym (in_range at count i low (omega arith)))
            | inr above ↦
                get_or-append_right (replicate (end - at) true) _ (end - at) (i - at) false (length-replicate (end - at) true) (omega arith)
                ∙ get_or-drop (end - at) (drop at flags) (i - at - (end - at)) false
                ∙ get_or-drop at flags (end - at + (i - at - (end - at))) false
                ∙ ap (λ k. get_or flags k false) (omega arith)
                ∙ ap (λ test. test || get_or flags i false) (sym (above_range at count i (omega arith)))
          ])
    ])

-- nothing to mark
pub marked_outside : (at count : ℕ) (flags : List Bool) → min (at + count) (length flags) ≤ at → flags ≡ marked at count (length flags) flags
marked_outside at count flags none =
    marked_by_each at count (length flags) flags flags refl
    (λ i inside. ap (λ test. test || get_or flags i false) (sym (outside i inside)))
  where
    outside : (i : ℕ) → i < length flags → is_in_range at count i ≡ false
    outside i inside = elim (cases_lt i at) [
      | inl below ↦ below_range at count i below
      | inr low ↦ above_range at count i (omega arith)
    ]
