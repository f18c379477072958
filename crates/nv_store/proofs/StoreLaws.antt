-- What steps and torn writes keep of a store.
use Rattle.std.proofs.Common.{◌≡◌, ℕ, ◌+◌, ◌-◌, ◌<◌, ◌≤◌, ◌||◌, Bool, true, false, List, [], length, get_or, take, drop, replicate, refl, sym, ap, ◌∙◌, arith, inl, inr, ◌⊎◌}
use Rattle.std.proofs.lemmas.Bool.{cases_lt, cases_Bool, false≢true}
use Rattle.std.proofs.lemmas.Bool.Decides.{nat_tests}
use Rattle.std.proofs.lemmas.List.{length-take, length-replicate, get_or-take, get_or-replicate, get_or-drop, get_or_past, take_all, ext_get_or}
use Rattle.nv_plain.specs.Files.{padded, overwritten}
use Rattle.nv_plain.proofs.FileLemmas.{length-padded, get_or-padded, length-overwritten_grows, get_or-overwritten_inside, get_or-overwritten_below, get_or-overwritten_above}
use Rattle.nv_store.specs.Store.{Store, quiet_store, is_unsynced, durable_byte, IsWholeStore, IsQuietStore, is_in_range, marked}
use Rattle.nv_store.specs.Steps.{StoreStep, Write, Sync, after_store_step}
use Rattle.nv_store.specs.Torn.{IsTorn, with_marks}
use Rattle.nv_store.proofs.Flags.{in_range, length-marked, flag-marked, marked_none}

or_false : (a b : Bool) → (a || b) ≡ false → (a ≡ false) × (b ≡ false)
or_false true b is = absurd (false≢true (sym is))
or_false false b is = (refl, is)

-- an offset that isn't in a range lies below or above it
pub outside : (at count i : ℕ) → is_in_range at count i ≡ false → (i < at) ⊎ (at + count ≤ i)
outside at count i out = elim (cases_lt i at) [
  | inl below ↦ inl below
  | inr low ↦ elim (cases_lt i (at + count)) [
    | inl high ↦ absurd (false≢true (sym out ∙ in_range at count i low high))
    | inr above ↦ inr above
  ]
]

pub in_range_low : (at count i : ℕ) → is_in_range at count i ≡ true → at ≤ i
in_range_low at count i there = grind (arith, nat_tests)

pub in_range_high : (at count i : ℕ) → is_in_range at count i ≡ true → i < at + count
in_range_high at count i there = grind (arith, nat_tests)

-- a byte that isn't marked lies outside the range, and wasn't marked before
pub unmarked : (at count len : ℕ) (flags : List Bool) (i : ℕ) → i < len → get_or (marked at count len flags) i false ≡ false
    → (is_in_range at count i ≡ false) × (get_or flags i false ≡ false)
unmarked at count len flags i inside clear = or_false _ _ (sym (flag-marked at count len flags i inside) ∙ clear)

-- and the other way round
pub still_unmarked : (at count len : ℕ) (flags : List Bool) (i : ℕ) → i < len → is_in_range at count i ≡ false → get_or flags i false ≡ false
    → get_or (marked at count len flags) i false ≡ false
still_unmarked at count len flags i inside out clear =
    flag-marked at count len flags i inside ∙ ap (λ test. test || get_or flags i false) out ∙ clear

-- a write leaves each byte outside its range
pub byte_outside : (bytes source : List ℕ) (at i : ℕ) → (i < at) ⊎ (at + length source ≤ i) → get_or (overwritten bytes at source) i 0 ≡ get_or bytes i 0
byte_outside bytes source at i (inl below) = get_or-overwritten_below bytes source at i below
byte_outside bytes source at i (inr above) = get_or-overwritten_above bytes source at i above

-- past its length a whole store has no durable byte
pub durable_past : (store : Store) → length store.durable ≤ length store.seen → (i : ℕ) → length store.seen ≤ i → durable_byte store i ≡ 0
durable_past store no_longer i past = get_or_past store.durable i 0 (omega arith)

-- ---- torn writes

-- a torn write may be whole
pub write_is_torn : (at : ℕ) (bytes : List ℕ) (store : Store) → IsTorn at (length bytes) store (after_store_step (Write at bytes) store)
write_is_torn at bytes store = record {
  bytes = bytes;
  many = refl;
  no_shorter = length-overwritten_grows store.seen bytes at;
  seen = sym (take_all (length (overwritten store.seen at bytes)) (overwritten store.seen at bytes) (omega arith));
  durable = refl;
  unsynced = refl;
}

-- each byte that a torn write leaves outside its range is as it was
pub torn_outside : (at count : ℕ) (old new : Store) → IsTorn at count old new → (i : ℕ) → i < length new.seen → is_in_range at count i ≡ false
    → get_or new.seen i 0 ≡ get_or old.seen i 0
torn_outside at count old new torn i inside out =
    let aside : (i < at) ⊎ (at + length torn.bytes ≤ i) = elim (outside at count i out) [
      | inl below ↦ inl below
      | inr above ↦ inr (omega (arith, torn.many))
    ] in
    ap (λ bytes. get_or bytes i 0) torn.seen
    ∙ get_or-take (length new.seen) (overwritten old.seen at torn.bytes) i 0 inside
    ∙ byte_outside old.seen torn.bytes at i aside

pub whole_torn : (at count : ℕ) (old new : Store) → IsWholeStore old → IsTorn at count old new → IsWholeStore new
whole_torn at count old new whole torn = record {
  flags = ap length torn.unsynced ∙ length-marked at count (length new.seen) old.unsynced;
  no_longer = omega (arith, ap length torn.durable, whole.no_longer, torn.no_shorter);
  synced = λ i clear. elim (cases_lt i (length new.seen)) [
    | inl inside ↦
        let was = unmarked at count (length new.seen) old.unsynced i inside (sym (ap (λ flags. get_or flags i false) torn.unsynced) ∙ clear) in
        torn_outside at count old new torn i inside was.0
        ∙ whole.synced i was.1
        ∙ ap (λ bytes. get_or bytes i 0) (sym torn.durable)
    | inr past ↦
        get_or_past new.seen i 0 past
        ∙ sym (durable_past new (omega (arith, ap length torn.durable, whole.no_longer, torn.no_shorter)) i past)
  ];
}

-- what a refused write leaves is a torn one: the bytes that there were
pub marks_are_torn : (at count : ℕ) (store : Store) → IsTorn at count store (with_marks at count store)
marks_are_torn at count store = record {
  bytes = same;
  many = many;
  no_shorter = omega arith;
  seen =
      ext_get_or 0 store.seen (take (length store.seen) (overwritten store.seen at same))
      (omega (arith, length-take (length store.seen) (overwritten store.seen at same), length-overwritten_grows store.seen same at))
      (λ i inside. sym (get_or-take (length store.seen) (overwritten store.seen at same) i 0 inside ∙ each i));
  durable = refl;
  unsynced = refl;
}
  where
    same : List ℕ
    same = take count (padded (drop at store.seen) count)

    many : length same ≡ count
    many = omega (arith, length-take count (padded (drop at store.seen) count), length-padded (drop at store.seen) count)

    each : (i : ℕ) → get_or (overwritten store.seen at same) i 0 ≡ get_or store.seen i 0
    each i = elim (cases_Bool (is_in_range at count i)) [
      | inl there ↦
          let low : at ≤ i = in_range_low at count i there in
          let high : i < at + count = in_range_high at count i there in
          get_or-overwritten_inside store.seen same at i low (omega (arith, many))
          ∙ get_or-take count (padded (drop at store.seen) count) (i - at) 0 (omega arith)
          ∙ get_or-padded (drop at store.seen) count (i - at)
          ∙ get_or-drop at store.seen (i - at) 0
          ∙ ap (λ k. get_or store.seen k 0) (omega arith)
      | inr out ↦ byte_outside store.seen same at i (elim (outside at count i out) [ inl below ↦ inl below | inr above ↦ inr (omega (arith, many)) ])
    ]

-- ---- whole and quiet stores

-- a store of the same bytes and flags as a whole one
pub whole_same : (store new : Store) → new.seen ≡ store.seen → new.durable ≡ store.durable → new.unsynced ≡ store.unsynced → IsWholeStore store → IsWholeStore new
whole_same store new seen durable unsynced whole = record {
  flags = ap length unsynced ∙ whole.flags ∙ sym (ap length seen);
  no_longer = omega (arith, ap length durable, whole.no_longer, ap length seen);
  synced = λ i clear.
      ap (λ bytes. get_or bytes i 0) seen
      ∙ whole.synced i (sym (ap (λ flags. get_or flags i false) unsynced) ∙ clear)
      ∙ ap (λ bytes. get_or bytes i 0) (sym durable);
}

pub is_unsynced-quiet : (bytes : List ℕ) (i : ℕ) → is_unsynced (quiet_store bytes) i ≡ false
is_unsynced-quiet bytes i = elim (cases_lt i (length bytes)) [
  | inl inside ↦ get_or-replicate (length bytes) i false false inside
  | inr past ↦ get_or_past (replicate (length bytes) false) i false (omega (arith, length-replicate {A = Bool} (length bytes) false))
]

pub quiet_is_quiet : (bytes : List ℕ) → IsQuietStore (quiet_store bytes)
quiet_is_quiet bytes = record { none = is_unsynced-quiet bytes; durable = refl }

pub quiet_is_whole : (bytes : List ℕ) → IsWholeStore (quiet_store bytes)
quiet_is_whole bytes = record { flags = length-replicate (length bytes) false; no_longer = omega arith; synced = λ i clear. refl }

pub whole_after_step : (step : StoreStep) (store : Store) → IsWholeStore store → IsWholeStore (after_store_step step store)
whole_after_step (Write at bytes) store whole =
    whole_torn at (length bytes) store (after_store_step (Write at bytes) store) whole (write_is_torn at bytes store)
whole_after_step Sync store whole = quiet_is_whole store.seen

-- a write of no bytes leaves a whole store as it is
pub write_nothing : (at : ℕ) (store : Store) → IsWholeStore store → after_store_step (Write at []) store ≡ store
write_nothing at store whole =
    ap (λ flags. let after : Store = record { seen = store.seen; durable = store.durable; unsynced = flags } in after)
    (marked_none at (length store.seen) store.unsynced whole.flags)
