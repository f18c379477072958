-- What of a store isn't durable: which bytes it is after a write, made or torn, and after a sync.
use Rattle.std.proofs.Common.{◌≡◌, ◌⊎◌, ℕ, zero, suc, ◌+◌, ◌-◌, ◌<◌, ◌≤◌, ◌&&◌, ◌||◌, nat_le, nat_lt, Bool, true, false, List, length, get_or, replicate, Option, Some, None, inl, inr, refl, sym, ap, subst, ◌∙◌, arith}
use Rattle.std.specs.Prelude.{option_map}
use Rattle.std.proofs.lemmas.Bool.{cases_lt, and_from, le-leb, lt-ltb, lt-leb, le-ltb}
use Rattle.std.proofs.lemmas.List.{get_or_past, take_all}
use Rattle.std.proofs.lemmas.List.FromFn.{get_or-map-range_with_len, length-map-range_with_len}
use Rattle.nv_plain.specs.Files.{overwritten}
use Rattle.nv_store.specs.Store.{Store, IsQuietStore, quiet_store, is_unsynced, durable_byte, is_in_range, marked}
use Rattle.nv_store.specs.Steps.{Write, Sync, after_store_step}
use Rattle.nv_store.specs.Torn.{IsTorn}
use Rattle.nv_core.specs.state.Values.{Value, Bare, APart, AStore, ABuffer, PieceWrite, StoreSync, CallEnding, Made, Failed, Refused, called}
use Rattle.nv_core.specs.steps.Order.{CallMayLeave, IsTornOf}
use Rattle.nv_core.specs.content.StorePages.{store_of_value}
use Rattle.nv_core.specs.content.PlainLaws.{PlainLaws}
use Rattle.nv_core.proofs.content.PlainPages.{never_shorter}
use Rattle.nv_core.proofs.crash.CommutingLaws.{in_or_out}
use Rattle.nv_core.proofs.state.Choices.{not_both}
use Rattle.nv_core.proofs.log.KeepsLive.{and_false}
use Rattle.nv_core.proofs.log.StoreLaws.{torn_differs}

-- Each byte that was written since the last sync is one of these, and one of them is at or behind the last where the store is longer than what
-- is durable. Any other byte is the durable one.
pub record Lies (P : ℕ → Type 0) (store : Store) : Type 0 where
  pub no_longer : length store.durable ≤ length store.seen
  pub synced : (i : ℕ) → is_unsynced store i ≡ false → get_or store.seen i 0 ≡ durable_byte store i
  pub unsynced : (i : ℕ) → is_unsynced store i ≡ true → P i
  pub longer : length store.durable < length store.seen → (i : ℕ) × (length store.seen ≤ i + 1) × P i

-- a durable store has none
pub quiet_lies : (P : ℕ → Type 0) (store : Store) → IsQuietStore store → Lies P store
quiet_lies P store quiet = record {
  no_longer = let l = ap length quiet.durable in omega (arith, l);
  synced = λ i none. ap (λ bytes. get_or bytes i 0) (sym quiet.durable);
  unsynced = λ i some. absurd (not_both some (quiet.none i));
  longer = λ more. absurd (let l = ap length quiet.durable in omega (arith, l, more));
}

none_marked : (n i : ℕ) → get_or (replicate n false) i false ≡ false
none_marked zero i = refl
none_marked (suc n) zero = refl
none_marked (suc n) (suc i) = none_marked n i

pub synced_quiet : (bytes : List ℕ) → IsQuietStore (quiet_store bytes)
synced_quiet bytes = record { none = λ i. none_marked (length bytes) i; durable = refl }

-- ---- a torn write

marked_in : (at count len i : ℕ) (flags : List Bool) → i < len → get_or (marked at count len flags) i false ≡ (is_in_range at count i || get_or flags i false)
unfolding marked
marked_in at count len i flags less = get_or-map-range_with_len (λ k. is_in_range at count k || get_or flags k false) 0 len i i false less (omega arith)

marked_past : (at count len i : ℕ) (flags : List Bool) → len ≤ i → get_or (marked at count len flags) i false ≡ false
unfolding marked
marked_past at count len i flags past = get_or_past (marked at count len flags) i false (let l = length-map-range_with_len (λ k. is_in_range at count k || get_or flags k false) 0 len in omega (arith, l, past))

or_none : (a b : Bool) → (a || b) ≡ false → (a ≡ false) × (b ≡ false)
or_none false b e = (refl, e)
or_none true b e = absurd (not_both refl e)

pub or_some : (a b : Bool) → (a || b) ≡ true → (a ≡ true) ⊎ (b ≡ true)
or_some true b e = inl refl
or_some false b e = inr e

module _ (plain : PlainLaws) (P : ℕ → Type 0) (at count : ℕ) (old new : Store) (torn : IsTorn at count old new) (range : (i : ℕ) → at ≤ i → i < at + count → P i) (lies : Lies P old) where
  flag_in : (i : ℕ) → i < length new.seen → is_unsynced new i ≡ (is_in_range at count i || is_unsynced old i)
  flag_in i less = ap (λ flags. get_or flags i false) torn.unsynced ∙ marked_in at count (length new.seen) i old.unsynced less

  flag_past : (i : ℕ) → length new.seen ≤ i → is_unsynced new i ≡ false
  flag_past i past = ap (λ flags. get_or flags i false) torn.unsynced ∙ marked_past at count (length new.seen) i old.unsynced past

  in_range : (i : ℕ) → at ≤ i → i < at + count → is_in_range at count i ≡ true
  in_range i low high = and_from (nat_le at i) (nat_lt i (at + count)) (le-leb at i low) (lt-ltb i (at + count) high)

  torn_synced : (i : ℕ) → is_unsynced new i ≡ false → get_or new.seen i 0 ≡ durable_byte new i
  torn_synced i none = elim (cases_lt i (length new.seen)) [
    | inr past ↦ get_or_past new.seen i 0 past ∙ sym (get_or_past new.durable i 0 (let d = ap length torn.durable in let l = lies.no_longer in let s = torn.no_shorter in omega (arith, d, l, s, past)))
    | inl less ↦
        let both = or_none (is_in_range at count i) (is_unsynced old i) (sym (flag_in i less) ∙ none) in
        elim (in_or_out at count i) [
          | inl inside ↦ absurd (not_both (in_range i inside.0 inside.1) both.0)
          | inr outside ↦ (torn_differs plain at count old new torn).outside i outside ∙ lies.synced i both.1 ∙ ap (λ bytes. get_or bytes i 0) (sym torn.durable)
        ]
  ]

  torn_unsynced : (i : ℕ) → is_unsynced new i ≡ true → P i
  torn_unsynced i some = elim (cases_lt i (length new.seen)) [
    | inr past ↦ absurd (not_both some (flag_past i past))
    | inl less ↦ elim (or_some (is_in_range at count i) (is_unsynced old i) (sym (flag_in i less) ∙ some)) [
      | inr old_ ↦ lies.unsynced i old_
      | inl here ↦ elim (in_or_out at count i) [
        | inl inside ↦ range i inside.0 inside.1
        | inr outside ↦ absurd (not_both here (out_of_range outside))
      ]
    ]
  ]
    where
      out_of_range : (i < at) ⊎ (at + count ≤ i) → is_in_range at count i ≡ false
      out_of_range (inl before) = ap (λ b. b && nat_lt i (at + count)) (lt-leb at i before)
      out_of_range (inr behind) = ap (λ b. nat_le at i && b) (le-ltb i (at + count) behind) ∙ and_false (nat_le at i)

  torn_longer : length new.durable < length new.seen → (i : ℕ) × (length new.seen ≤ i + 1) × P i
  torn_longer more = elim (torn_differs plain at count old new torn).ends [
    | inl same ↦ let last = lies.longer (let d = ap length torn.durable in omega (arith, d, same, more)) in let l = last.1 in (last.0, omega (arith, l, same), last.2)
    | inr ends ↦ let a = ends.1 in let c = ends.2 in (at + count - 1, omega (arith, a, c), range (at + count - 1) (omega (arith, c)) (omega (arith, c)))
  ]

  pub torn_lies : Lies P new
  torn_lies = record {
    no_longer = let d = ap length torn.durable in let l = lies.no_longer in let s = torn.no_shorter in omega (arith, d, l, s);
    synced = torn_synced;
    unsynced = torn_unsynced;
    longer = torn_longer;
  }

-- a write that is made is torn of which all came
pub write_torn : (plain : PlainLaws) (at : ℕ) (bytes : List ℕ) (store : Store) → IsTorn at (length bytes) store (after_store_step (Write at bytes) store)
write_torn plain at bytes store = record {
  bytes = bytes;
  many = refl;
  no_shorter = never_shorter plain store.seen bytes at;
  seen = sym (take_all (length (overwritten store.seen at bytes)) (overwritten store.seen at bytes) (omega arith));
  durable = refl;
  unsynced = refl;
}

-- ---- what a cleaner's call leaves of a store

-- the store was this, and is as it was or torn
pub data IsWrittenBackTo (at count : ℕ) (was : Option Store) (new : Store) : Type 0 where
  Kept_it : was ≡ Some new → IsWrittenBackTo at count was new
  Tore_it : (old : Store) → was ≡ Some old → IsTorn at count old new → IsWrittenBackTo at count was new

some_same : (one other : Store) → Some one ≡ Some other → one ≡ other
some_same one other e = cc

mapped : (plain : PlainLaws) (at : ℕ) (bytes : List ℕ) (was left : Option Store) (new : Store) → left ≡ option_map (after_store_step (Write at bytes)) was → left ≡ Some new → IsWrittenBackTo at (length bytes) was new
mapped plain at bytes (Some old) left new e is = Tore_it old refl (subst (IsTorn at (length bytes) old) (some_same (after_store_step (Write at bytes) old) new (sym e ∙ is)) (write_torn plain at bytes old))
mapped plain at bytes None left new e is = absurd (let n : None ≡ Some new = sym e ∙ is in cc)

tore : (at count : ℕ) (was left : Option Store) (new : Store) → IsTornOf at count was left → left ≡ Some new → IsWrittenBackTo at count was new
tore at count (Some old) (Some now) new torn is = Tore_it old refl (subst (IsTorn at count old) (some_same now new is) torn)
tore at count (Some old) None new torn is = absurd torn
tore at count None left new torn is = absurd torn

pub written_back_to : (plain : PlainLaws) (at : ℕ) (bytes : List ℕ) (left : Option Store) (how : CallEnding) (value : Value) → CallMayLeave value (PieceWrite at bytes left) how → (new : Store) → store_of_value (called (PieceWrite at bytes left) how value) ≡ Some new
    → IsWrittenBackTo at (length bytes) (store_of_value value) new
written_back_to plain at bytes left Made (AStore device) leaves new is = mapped plain at bytes device.told left new leaves is
written_back_to plain at bytes left (Failed came faults) (AStore device) leaves new is = elim leaves [ inl same ↦ Kept_it (sym same ∙ is) | inr torn ↦ tore at (length bytes) device.told left new torn is ]
written_back_to plain at bytes left Refused (AStore device) leaves new is = Kept_it (sym leaves ∙ is)
written_back_to plain at bytes left how Bare leaves new is = absurd cc
written_back_to plain at bytes left how (APart device spares) leaves new is = absurd cc
written_back_to plain at bytes left how (ABuffer buffer) leaves new is = absurd cc

synced_told : (told : Option Store) (new : Store) → option_map (after_store_step Sync) told ≡ Some new → (told ≡ Some new) ⊎ IsQuietStore new
synced_told (Some old) new is = inr (subst IsQuietStore (some_same (quiet_store old.seen) new is) (synced_quiet old.seen))
synced_told None new is = absurd cc

-- after a sync it is as it was, or durable
pub synced_to : (how : CallEnding) (value : Value) (new : Store) → store_of_value (called StoreSync how value) ≡ Some new → (store_of_value value ≡ Some new) ⊎ IsQuietStore new
synced_to Made (AStore device) new is = synced_told device.told new is
synced_to (Failed true faults) (AStore device) new is = synced_told device.told new is
synced_to (Failed false faults) (AStore device) new is = inl is
synced_to Refused (AStore device) new is = inl is
synced_to how Bare new is = absurd cc
synced_to how (APart device spares) new is = absurd cc
synced_to how (ABuffer buffer) new is = absurd cc
