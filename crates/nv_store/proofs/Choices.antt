-- Bytes of which some are replaced, and the words that are drawn for them.
use Rattle.std.proofs.Common.{◌≡◌, ◌≢◌, ℕ, zero, suc, ◌+◌, ◌<◌, ◌≤◌, if◌then◌else◌, Bool, true, false, List, length, get_or, slice_set, refl, sym, ap, ◌∙◌, arith, below_more}
use Rattle.std.proofs.lemmas.List.{get_or-set_same, get_or-set_other}
use Rattle.std.proofs.lemmas.List.Sums.{count_by_more_yes, count_by_more_no}
use Rattle.std.proofs.lemmas.List.FromFn.{length-map-range_with_len, get_or-map-range_with_len, fill_by_all}
use Rattle.nv_pmem.specs.Draws.{Draws, after_draw}
use Rattle.nv_store.specs.Picked.{after_draws, count_below}
use Rattle.nv_store.specs.Replaced.{replaced}

-- a byte, or another where its flag is set
abbrev pub chosen : List Bool → (ℕ → ℕ) → List ℕ → ℕ → ℕ
chosen flags other bytes i = if get_or flags i false then other i else get_or bytes i 0

pub chosen_other : (flags : List Bool) (other : ℕ → ℕ) (bytes : List ℕ) (i : ℕ) → get_or flags i false ≡ true → chosen flags other bytes i ≡ other i
chosen_other flags other bytes i set = ap (λ flag. if flag then other i else get_or bytes i 0) set

pub chosen_same : (flags : List Bool) (other : ℕ → ℕ) (bytes : List ℕ) (i : ℕ) → get_or flags i false ≡ false → chosen flags other bytes i ≡ get_or bytes i 0
chosen_same flags other bytes i clear = ap (λ flag. if flag then other i else get_or bytes i 0) clear

-- bytes that are the replaced ones, one by one
pub replaced_by_each : (flags : List Bool) (other : ℕ → ℕ) (bytes these : List ℕ) → length these ≡ length bytes
    → ((i : ℕ) → i < length bytes → get_or these i 0 ≡ chosen flags other bytes i) → these ≡ replaced flags other bytes
unfolding replaced
replaced_by_each flags other bytes these all each = fill_by_all (chosen flags other bytes) these (length bytes) 0 all each

pub length-replaced : (flags : List Bool) (other : ℕ → ℕ) (bytes : List ℕ) → length (replaced flags other bytes) ≡ length bytes
unfolding replaced
length-replaced flags other bytes = length-map-range_with_len (chosen flags other bytes) 0 (length bytes)

pub byte-replaced : (flags : List Bool) (other : ℕ → ℕ) (bytes : List ℕ) (i : ℕ) → i < length bytes → get_or (replaced flags other bytes) i 0 ≡ chosen flags other bytes i
unfolding replaced
byte-replaced flags other bytes i inside =
    get_or-map-range_with_len (chosen flags other bytes) 0 (length bytes) i i 0 inside (omega arith)

-- The bytes below i are replaced, and the others are as they were.
pub record IsReplacedTo (flags : List Bool) (other : ℕ → ℕ) (old now : List ℕ) (i : ℕ) : Type 0 where
  pub done : (k : ℕ) → k < i → get_or now k 0 ≡ chosen flags other old k
  pub left : (k : ℕ) → i ≤ k → get_or now k 0 ≡ get_or old k 0

pub replaced_none : (flags : List Bool) (other : ℕ → ℕ) (old : List ℕ) → IsReplacedTo flags other old old 0
replaced_none flags other old = record { done = λ k below. absurd (omega arith); left = λ k _. refl }

pub replaced_more_set : (flags : List Bool) (other : ℕ → ℕ) (old now : List ℕ) (i value : ℕ) → i < length now → get_or flags i false ≡ true → value ≡ other i
    → IsReplacedTo flags other old now i → IsReplacedTo flags other old (slice_set now i value) (i + 1)
replaced_more_set flags other old now i value inside set is so_far = record {
  done =
      below_more (λ k. get_or (slice_set now i value) k 0 ≡ chosen flags other old k) i
      (λ k below. let differs : k ≢ i = omega arith in get_or-set_other now i k value 0 differs ∙ so_far.done k below)
      (get_or-set_same now i value 0 inside ∙ is ∙ sym (chosen_other flags other old i set));
  left = λ k above. let differs : k ≢ i = omega arith in get_or-set_other now i k value 0 differs ∙ so_far.left k (omega arith);
}

pub replaced_more_clear : (flags : List Bool) (other : ℕ → ℕ) (old now : List ℕ) (i : ℕ) → get_or flags i false ≡ false
    → IsReplacedTo flags other old now i → IsReplacedTo flags other old now (i + 1)
replaced_more_clear flags other old now i clear so_far = record {
  done =
      below_more (λ k. get_or now k 0 ≡ chosen flags other old k) i so_far.done
      (so_far.left i (omega arith) ∙ sym (chosen_same flags other old i clear));
  left = λ k above. so_far.left k (omega arith);
}

pub replaced_all : (flags : List Bool) (other : ℕ → ℕ) (old now : List ℕ) (i : ℕ) → length now ≡ length old → length old ≤ i
    → IsReplacedTo flags other old now i → now ≡ replaced flags other old
replaced_all flags other old now i all over whole = replaced_by_each flags other old now all (λ k inside. whole.done k (omega arith))

-- ---- draws

-- one more draw is the last
after_draws-suc : (count : ℕ) (draws : Draws) → after_draws (suc count) draws ≡ after_draw (after_draws count draws)
unfolding after_draws
after_draws-suc zero draws = refl
after_draws-suc (suc count) draws = after_draws-suc count (after_draw draws)

pub after_draws-none : (draws : Draws) → after_draws 0 draws ≡ draws
unfolding after_draws
after_draws-none draws = refl

-- a marked byte takes one more draw
pub draws_more_set : (flags : List Bool) (i : ℕ) (draws : Draws) → i < length flags → get_or flags i false ≡ true
    → after_draws (count_below flags (i + 1)) draws ≡ after_draw (after_draws (count_below flags i) draws)
draws_more_set flags i draws inside set =
    ap (λ count. after_draws count draws) (count_by_more_yes (λ flag. flag) flags i false inside set ∙ omega arith)
    ∙ after_draws-suc (count_below flags i) draws

-- any other takes none
pub draws_more_clear : (flags : List Bool) (i : ℕ) (draws : Draws) → i < length flags → get_or flags i false ≡ false
    → after_draws (count_below flags (i + 1)) draws ≡ after_draws (count_below flags i) draws
draws_more_clear flags i draws inside clear =
    ap (λ count. after_draws count draws) (count_by_more_no (λ flag. flag) flags i false inside clear)
