-- A write that is made again makes good all that an earlier try of it left.
use Rattle.std.proofs.Common.{◌≡◌, ℕ, ◌+◌, ◌<◌, ◌≤◌, ◌&&◌, if◌then◌else◌, not, min, max, Bool, true, false, List, [], ◌∷◌, length, get_or, take, map, refl, sym, ap, ◌∙◌, arith, inl, inr}
use Rattle.std.proofs.lemmas.Bool.{cases_lt, cases_Bool}
use Rattle.std.proofs.lemmas.List.{get_or_past, ext_get_or, nil_from_length, length-take}
use Rattle.std.proofs.lemmas.List.FromFn.{length-map-range_with_len, get_or-map-range_with_len}
use Rattle.std.specs.List.{range_with_len}
use Rattle.nv_plain.specs.Files.{overwritten}
use Rattle.nv_plain.proofs.FileLemmas.{length-overwritten, get_or-overwritten_inside}
use Rattle.nv_store.specs.Store.{Store, is_unsynced, durable_byte, is_in_range, IsWholeStore}
use Rattle.nv_store.specs.Torn.{IsTorn}
use Rattle.nv_store.specs.Images.{IsStoreImage}
use Rattle.nv_store.specs.Laws.{IsCovered}
use Rattle.nv_store.proofs.Flags.{marked_none}
use Rattle.nv_store.proofs.StoreLaws.{in_range_low, in_range_high, outside, still_unmarked, byte_outside}

-- a byte of a range that was synced before the write
certain : ℕ → ℕ → Store → ℕ → Bool
certain at count store i = is_in_range at count i && not (is_unsynced store i)

certain_outside : (at count : ℕ) (store : Store) (i : ℕ) → is_in_range at count i ≡ false → certain at count store i ≡ false
unfolding certain
certain_outside at count store i out = ap (λ test. test && not (is_unsynced store i)) out

certain_inside : (at count : ℕ) (store : Store) (i : ℕ) → is_in_range at count i ≡ true → is_unsynced store i ≡ false → certain at count store i ≡ true
unfolding certain
certain_inside at count store i there clear = cc

before_byte : ℕ → ℕ → Store → List ℕ → ℕ → ℕ
before_byte at count store image i = if certain at count store i then durable_byte store i else get_or image i 0

module _ (at count : ℕ) (store : Store) (image : List ℕ) where
  -- An image before the write: the image after it, cut to the length before, with those bytes made good.
  pub before : List ℕ
  before = map (before_byte at count store image) (range_with_len 0 (min (length image) (length store.seen)))

  length-before : length before ≡ min (length image) (length store.seen)
  unfolding before
  length-before = length-map-range_with_len (before_byte at count store image) 0 (min (length image) (length store.seen))

  byte-before : (i : ℕ) → i < min (length image) (length store.seen) → get_or before i 0 ≡ before_byte at count store image i
  unfolding before
  byte-before i inside =
      get_or-map-range_with_len (before_byte at count store image) 0 (min (length image) (length store.seen)) i i 0 inside (omega arith)

  before_outside : (i : ℕ) → i < min (length image) (length store.seen) → is_in_range at count i ≡ false → get_or before i 0 ≡ get_or image i 0
  unfolding before_byte
  before_outside i inside out =
      byte-before i inside ∙ ap (λ test. if test then durable_byte store i else get_or image i 0) (certain_outside at count store i out)

  before_synced : (i : ℕ) → i < min (length image) (length store.seen) → is_in_range at count i ≡ true → is_unsynced store i ≡ false
      → get_or before i 0 ≡ durable_byte store i
  unfolding before_byte
  before_synced i inside there clear =
      byte-before i inside ∙ ap (λ test. if test then durable_byte store i else get_or image i 0) (certain_inside at count store i there clear)

module _ (at count : ℕ) (old new : Store) (image : List ℕ) (whole : IsWholeStore old) (torn : IsTorn at count old new) (is : IsStoreImage new image) where
  -- outside the range a byte that was synced still is
  still_synced : (i : ℕ) → i < length new.seen → is_in_range at count i ≡ false → is_unsynced old i ≡ false → get_or image i 0 ≡ durable_byte old i
  still_synced i inside out clear =
      is.synced i (ap (λ flags. get_or flags i false) torn.unsynced ∙ still_unmarked at count (length new.seen) old.unsynced i inside out clear)
      ∙ ap (λ bytes. get_or bytes i 0) torn.durable

  -- a byte outside the range, past the old length, is in a gap
  gap : (i : ℕ) → length old.seen ≤ i → i < length image → is_in_range at count i ≡ false → get_or image i 0 ≡ 0
  gap i past inside out =
      still_synced i (omega (arith, is.no_longer)) out (get_or_past old.unsynced i false (omega (arith, whole.flags)))
      ∙ get_or_past old.durable i 0 (omega (arith, whole.no_longer))

  before_is_image : IsStoreImage old (before at count old image)
  before_is_image = record {
    no_shorter = omega (arith, length-before at count old image, ap length torn.durable, is.no_shorter, whole.no_longer);
    no_longer = omega (arith, length-before at count old image);
    synced = λ i clear. elim (cases_lt i (min (length image) (length old.seen))) [
      | inl inside ↦ elim (cases_Bool (is_in_range at count i)) [
        | inl there ↦ before_synced at count old image i inside there clear
        | inr out ↦ before_outside at count old image i inside out ∙ still_synced i (omega (arith, is.no_longer)) out clear
      ]
      | inr past ↦
          get_or_past (before at count old image) i 0 (omega (arith, length-before at count old image))
          ∙ sym (get_or_past old.durable i 0 (omega (arith, ap length torn.durable, is.no_shorter, whole.no_longer)))
    ];
  }

  before_same : (i : ℕ) → is_in_range at count i ≡ false → get_or image i 0 ≡ get_or (before at count old image) i 0
  before_same i out = elim (cases_lt i (min (length image) (length old.seen))) [
    | inl inside ↦ sym (before_outside at count old image i inside out)
    | inr past ↦
        (elim (cases_lt i (length image)) [
          | inl inside ↦ gap i (omega arith) inside out
          | inr over ↦ get_or_past image i 0 over
        ])
        ∙ sym (get_or_past (before at count old image) i 0 (omega (arith, length-before at count old image)))
  ]

-- how long a torn write leaves a store
torn_length : (at count : ℕ) (old new : Store) → 0 < count → IsTorn at count old new → length new.seen ≤ max (length old.seen) (at + count)
torn_length at count old new some torn =
    omega (
      arith,
      ap length torn.seen,
      length-take (length new.seen) (overwritten old.seen at torn.bytes),
      length-overwritten old.seen torn.bytes at (omega (arith, torn.many)),
      torn.many,
    )

-- a torn write of nothing leaves the length
torn_nothing : (at : ℕ) (old new : Store) → IsTorn at 0 old new → length new.seen ≡ length old.seen
torn_nothing at old new torn =
    let none : torn.bytes ≡ [] = nil_from_length torn.bytes torn.many in
    let same : new.seen ≡ take (length new.seen) old.seen = torn.seen ∙ ap (λ bytes. take (length new.seen) (overwritten old.seen at bytes)) none in
    omega (arith, ap length same, length-take (length new.seen) old.seen, torn.no_shorter)

pub covered : (at : ℕ) (bytes : List ℕ) (old new : Store) (image : List ℕ) → IsWholeStore old → IsTorn at (length bytes) old new → IsStoreImage new image → IsCovered at bytes old image
covered at [] old new image whole torn is = record {
  before = image;
  is_image = record {
    no_shorter = omega (arith, is.no_shorter, ap length torn.durable);
    no_longer = omega (arith, is.no_longer, torn_nothing at old new torn);
    synced = λ i clear.
        is.synced i
        (ap (λ flags. get_or flags i false)
        (torn.unsynced ∙ marked_none at (length new.seen) old.unsynced (omega (arith, whole.flags, torn_nothing at old new torn)))
        ∙ clear)
        ∙ ap (λ bytes. get_or bytes i 0) torn.durable;
  };
  same = refl;
}
covered at (first ∷ rest) old new image whole torn is =
    let bytes = first ∷ rest in
    let count = length bytes in
    let was = before at count old image in
    let len_image = length-overwritten image bytes at (omega arith) in
    let len_was = length-overwritten was bytes at (omega arith) in
    record {
      before = was;
      is_image = before_is_image at count old new image whole torn is;
      same =
          ext_get_or 0 (overwritten image at bytes) (overwritten was at bytes)
          (omega (arith, len_image, len_was, length-before at count old image, is.no_longer, torn_length at count old new (omega arith) torn))
          (λ i inside. elim (cases_Bool (is_in_range at count i)) [
            | inl there ↦
                let low : at ≤ i = in_range_low at count i there in
                let high : i < at + count = in_range_high at count i there in
                get_or-overwritten_inside image bytes at i low high ∙ sym (get_or-overwritten_inside was bytes at i low high)
            | inr out ↦
                byte_outside image bytes at i (outside at count i out)
                ∙ before_same at count old new image whole torn is i out
                ∙ sym (byte_outside was bytes at i (outside at count i out))
          ]);
    }
