-- Laws about the images of a store.
use Rattle.std.proofs.Common.{◌≡◌, ℕ, ◌<◌, ◌≤◌, if◌then◌else◌, Bool, true, false, List, length, get_or, take, refl, sym, ap, ◌∙◌, arith, inl, inr}
use Rattle.std.proofs.lemmas.Bool.{cases_lt, cases_Bool}
use Rattle.std.proofs.lemmas.List.{get_or_past, ext_get_or, length-take, get_or-take}
use Rattle.std.proofs.lemmas.List.FromFn.{length-map-range_with_len, get_or-map-range_with_len, fill_by_all}
use Rattle.nv_pmem.specs.declared.picker.Pick.{Pick}
use Rattle.nv_pmem.specs.declared.picker.Pick.TheVariants.{Old, New, Torn, Mixed, Seed}
use Rattle.nv_pmem.specs.Draws.{Draws, after_draw}
use Rattle.nv_store.specs.Store.{Store, is_unsynced, durable_byte, IsWholeStore, IsQuietStore}
use Rattle.nv_store.specs.Images.{IsStoreImage}
use Rattle.nv_store.specs.Picked.{image_with, has_unsynced, drawn_len, redrawn, image_by, picked_image}
use Rattle.nv_store.specs.Replaced.{replaced}
use Rattle.nv_store.proofs.Choices.{chosen, chosen_other, chosen_same, length-replaced, byte-replaced}

-- what reads give of a whole store is an image
pub seen_is_image : (store : Store) → IsWholeStore store → IsStoreImage store store.seen
seen_is_image store whole = record { no_shorter = whole.no_longer; no_longer = omega arith; synced = whole.synced }

-- and so are the durable bytes
pub durable_is_image : (store : Store) → IsWholeStore store → IsStoreImage store store.durable
durable_is_image store whole = record { no_shorter = omega arith; no_longer = whole.no_longer; synced = λ i clear. refl }

-- what reads give is the one image of a quiet store
pub image_of_quiet : (store : Store) (image : List ℕ) → IsQuietStore store → IsStoreImage store image → image ≡ store.seen
image_of_quiet store image quiet is =
    ext_get_or 0 image store.seen (omega (arith, is.no_shorter, is.no_longer, ap length quiet.durable))
    (λ i inside. is.synced i (quiet.none i) ∙ ap (λ bytes. get_or bytes i 0) quiet.durable)

pub seen_of_quiet : (store : Store) → IsQuietStore store → IsStoreImage store store.seen
seen_of_quiet store quiet = record {
  no_shorter = omega (arith, ap length quiet.durable);
  no_longer = omega arith;
  synced = λ i clear. ap (λ bytes. get_or bytes i 0) (sym quiet.durable);
}

-- ---- the image that a pick names

choice : Store → (ℕ → ℕ) → ℕ → ℕ
choice store other i = if is_unsynced store i then other i else durable_byte store i

length-image_with : (store : Store) (len : ℕ) (other : ℕ → ℕ) → length (image_with store len other) ≡ len
unfolding image_with
length-image_with store len other = length-map-range_with_len _ 0 len

byte-image_with : (store : Store) (len : ℕ) (other : ℕ → ℕ) (i : ℕ) → i < len → get_or (image_with store len other) i 0 ≡ choice store other i
unfolding image_with choice
byte-image_with store len other i inside = get_or-map-range_with_len (choice store other) 0 len i i 0 inside (omega arith)

image_with_is_image : (store : Store) (len : ℕ) (other : ℕ → ℕ) → length store.durable ≤ len → len ≤ length store.seen → IsStoreImage store (image_with store len other)
unfolding choice
image_with_is_image store len other low high = record {
  no_shorter = omega (arith, length-image_with store len other);
  no_longer = omega (arith, length-image_with store len other);
  synced = λ i clear. elim (cases_lt i len) [
    | inl inside ↦ byte-image_with store len other i inside ∙ ap (λ flag. if flag then other i else durable_byte store i) clear
    | inr past ↦
        get_or_past (image_with store len other) i 0 (omega (arith, length-image_with store len other))
        ∙ sym (get_or_past store.durable i 0 (omega arith))
  ];
}

drawn_len_within : (store : Store) (draws : Draws) → length store.durable ≤ length store.seen → drawn_len store draws ≤ length store.seen
drawn_len_within store draws grown = omega arith

drawn_is_image : (store : Store) (draws : Draws) (some : Bool) → IsWholeStore store
    → IsStoreImage store (if some then image_with store (drawn_len store draws) (redrawn store.unsynced (after_draw draws)) else store.seen)
drawn_is_image store draws true whole =
    image_with_is_image store (drawn_len store draws) _ (omega arith) (drawn_len_within store draws whole.no_longer)
drawn_is_image store draws false whole = seen_is_image store whole

image_by_is_image : (pick : Pick) (store : Store) (draws : Draws) → IsWholeStore store → IsStoreImage store (image_by pick store draws)
image_by_is_image Old store draws whole = durable_is_image store whole
image_by_is_image New store draws whole = seen_is_image store whole
image_by_is_image Torn store draws whole = image_with_is_image store (length store.seen) _ whole.no_longer (omega arith)
image_by_is_image Mixed store draws whole = image_with_is_image store (length store.seen) _ whole.no_longer (omega arith)
image_by_is_image (Seed state) store draws whole = drawn_is_image store draws (has_unsynced store) whole

pub picked_is_image : (store : Store) (draws : Draws) → IsWholeStore store → IsStoreImage store (picked_image store draws)
picked_is_image store draws whole = image_by_is_image draws.pick store draws whole

-- ---- how it is made: bytes replaced in place

-- bytes that are the first of those that reads give
pub record AreFirst (store : Store) (bytes : List ℕ) : Type 0 where
  pub no_shorter : length store.durable ≤ length bytes
  pub no_longer : length bytes ≤ length store.seen
  pub same : (i : ℕ) → i < length bytes → get_or bytes i 0 ≡ get_or store.seen i 0

pub all_are_first : (store : Store) → IsWholeStore store → AreFirst store store.seen
all_are_first store whole = record { no_shorter = whole.no_longer; no_longer = omega arith; same = λ i inside. refl }

pub front_is_first : (store : Store) (len : ℕ) → IsWholeStore store → length store.durable ≤ len → len ≤ length store.seen → AreFirst store (take len store.seen)
front_is_first store len whole low high = record {
  no_shorter = omega (arith, length-take len store.seen);
  no_longer = omega (arith, length-take len store.seen);
  same = λ i inside. get_or-take len store.seen i 0 (omega (arith, length-take len store.seen));
}

chosen_is_choice : (store : Store) (bytes : List ℕ) (other : ℕ → ℕ) → IsWholeStore store → AreFirst store bytes → (i : ℕ) → i < length bytes
    → chosen store.unsynced other bytes i ≡ choice store other i
unfolding choice
chosen_is_choice store bytes other whole first i inside = elim (cases_Bool (is_unsynced store i)) [
  | inl set ↦ chosen_other store.unsynced other bytes i set ∙ sym (ap (λ flag. if flag then other i else durable_byte store i) set)
  | inr clear ↦
      chosen_same store.unsynced other bytes i clear ∙ first.same i inside ∙ whole.synced i clear
      ∙ sym (ap (λ flag. if flag then other i else durable_byte store i) clear)
]

-- bytes of which some were replaced, told by slices of the flags and of the bytes
pub replaced_in : (by : List Bool → ℕ → ℕ) {now slice bytes : List ℕ} {lent flags : List Bool} → now ≡ replaced lent (by lent) slice → lent ≡ flags → slice ≡ bytes → now ≡ replaced flags (by flags) bytes
replaced_in by {slice = slice} {flags = flags} is of_flags of_bytes =
    is ∙ ap (λ these. replaced these (by these) slice) of_flags ∙ ap (replaced flags (by flags)) of_bytes

pub replaced_is_image_with : (store : Store) (bytes : List ℕ) (other : ℕ → ℕ) → IsWholeStore store → AreFirst store bytes
    → replaced store.unsynced other bytes ≡ image_with store (length bytes) other
unfolding image_with choice
replaced_is_image_with store bytes other whole first =
    fill_by_all (choice store other) (replaced store.unsynced other bytes) (length bytes) 0 (length-replaced store.unsynced other bytes)
    (λ i inside. byte-replaced store.unsynced other bytes i inside ∙ chosen_is_choice store bytes other whole first i inside)

-- the store in which they stand is whole
pub whole_replaced : (store : Store) (bytes : List ℕ) (other : ℕ → ℕ) (flags : List Bool) → IsWholeStore store → AreFirst store bytes
    → length flags ≡ length bytes → ((i : ℕ) → i < length bytes → get_or flags i false ≡ is_unsynced store i)
    → let new : Store = record { seen = replaced store.unsynced other bytes; durable = store.durable; unsynced = flags } in IsWholeStore new
whole_replaced store bytes other flags whole first all each = record {
  flags = all ∙ sym (length-replaced store.unsynced other bytes);
  no_longer = omega (arith, length-replaced store.unsynced other bytes, first.no_shorter);
  synced = λ i clear. elim (cases_lt i (length bytes)) [
    | inl inside ↦
        let was : is_unsynced store i ≡ false = sym (each i inside) ∙ clear in
        byte-replaced store.unsynced other bytes i inside ∙ chosen_same store.unsynced other bytes i was
        ∙ first.same i inside ∙ whole.synced i was
    | inr past ↦
        get_or_past (replaced store.unsynced other bytes) i 0 (omega (arith, length-replaced store.unsynced other bytes))
        ∙ sym (get_or_past store.durable i 0 (omega (arith, first.no_shorter)))
  ];
}
