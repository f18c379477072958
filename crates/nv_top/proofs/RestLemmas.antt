-- The parts that come out of a mount that is closed with an empty log, those behind the entries' too: they tell, and are a region at rest.
use Rattle.std.proofs.Common.{◌≡◌, ℕ, zero, suc, ◌+◌, ◌%◌, ◌<◌, ◌≤◌, List, [], ◌∷◌, Bool, if◌then◌else◌, nat_lt, length, get_or, take, inl, inr, sym, ap, subst, ◌∙◌, arith}
use Rattle.std.specs.Prelude.{Some}
use Rattle.std.proofs.Math.ListN.{get_or-eq_default}
use Rattle.std.proofs.lemmas.Bool.{cases_lt, le-ltb, lt-ltb}
use Rattle.std.proofs.lemmas.List.{get_or-take}
use Rattle.std.proofs.lemmas.Nat.{mod_below}
use Rattle.nv_plain.specs.Images.{Image, PartImage, entry_of}
use Rattle.nv_plain.specs.Layouts.{mount_layout}
use Rattle.nv_pmem.specs.Images.{IsPartImage, IsQuietPart}
use Rattle.nv_pmem.specs.Part.{Part, part_word}
use Rattle.nv_pmem.specs.RowStates.{AreNow, IsNow}
use Rattle.nv_pmem.specs.Rows.{IsRowImage}
use Rattle.nv_pmem.specs.Steps.{PartHistory}
use Rattle.nv_pmem.proofs.ImageLaws.{image_of_now}
use Rattle.nv_header.specs.Regions.{IsAtRest}
use Rattle.nv_core.specs.state.Words.{Sizes}
use Rattle.nv_core.proofs.crash.CrashRegions.{reads_alike}
use Rattle.nv_table.specs.state.SlotValues.{present}

-- ---- what a value shows

-- a part whose value tells this state is in it now
pub now_of : (history : PartHistory) (state : Part) → present history ≡ Some state → IsNow history state
now_of [] state is = absurd cc
now_of (now ∷ past) state is = record { past = past; is = ap (λ s. s ∷ past) (some_is is) } where
  some_is : {X : Type 0} {x y : X} → Some x ≡ Some y → x ≡ y
  some_is {X} {x} {y} same = cc

pub is_longer : (history : PartHistory) (state : Part) → IsNow history state → 0 < length history
is_longer history state now = omega (arith, ap (λ (h : PartHistory). length h) now.is)

-- ---- the whole row

pub first_states : {S : Type 0} (n : ℕ) (row : List (List S)) (states : List S) → AreNow row states → AreNow (take n row) (take n states)
first_states zero row states are = tt
first_states (suc n) [] [] are = tt
first_states (suc n) [] (now ∷ states) are = absurd are
first_states (suc n) (history ∷ row) [] are = absurd are
first_states (suc n) (history ∷ row) (now ∷ states) are = (are.0, first_states n row states are.1)

pub state_at : {S : Type 0} (row : List (List S)) (states : List S) (i : ℕ) (d : S) → AreNow row states → i < length row → IsNow (get_or row i []) (get_or states i d)
state_at [] [] i d are less = absurd (omega (arith, less))
state_at [] (now ∷ states) i d are less = absurd are
state_at (history ∷ row) [] i d are less = absurd are
state_at (history ∷ row) (now ∷ states) zero d are less = are.0
state_at (history ∷ row) (now ∷ states) (suc i) d are less = state_at row states i d are.1 (omega (arith, less))

pub same_state : (history : PartHistory) (one other : Part) → IsNow history one → IsNow history other → one ≡ other
same_state history one other a b =
    let same : one ∷ a.past ≡ other ∷ b.past = sym a.is ∙ b.is in
    cc

-- an image of the first so many parts of which one image of all is left
cut : (n : ℕ) → Image → Image
cut n image i = if nat_lt i n then image i else part_word []

cut_at : (n : ℕ) (image : Image) (i : ℕ) → i < n → cut n image i ≡ image i
unfolding cut
cut_at n image i less = ap (λ (b : Bool). if b then image i else part_word []) (lt-ltb i n less)

cut_is : (n : ℕ) (states : List Part) (image : Image) → IsRowImage states image → IsRowImage (take n states) (cut n image)
unfolding cut
cut_is n states image is = record { each = each } where
  each : (i : ℕ) → IsPartImage (get_or (take n states) i []) (cut n image i)
  each i = elim (cases_lt i n) [
    | inl less ↦
        subst (λ (p : Part). IsPartImage p (cut n image i)) (sym (get_or-take n states i [] less))
        (subst (IsPartImage (get_or states i [])) (sym (cut_at n image i less)) (is.each i))
    | inr past ↦ elim (cases_lt i (length (take n states))) [
      | inl inside ↦ absurd (let short = length-take-most n states in omega (arith, past, inside, short))
      | inr behind ↦
          subst (λ (p : Part). IsPartImage p (cut n image i)) (sym (get_or-eq_default (take n states) [] (omega (arith, behind))))
          (subst (IsPartImage []) (sym (past_is i past)) (image_of_now []))
    ]
  ]
    where
      length-take-most : {X : Type 0} (n : ℕ) (xs : List X) → length (take n xs) ≤ n
      length-take-most zero xs = omega arith
      length-take-most (suc n) [] = omega arith
      length-take-most (suc n) (x ∷ xs) = let rest = length-take-most n xs in omega (arith, rest)

      past_is : (i : ℕ) → n ≤ i → cut n image i ≡ part_word []
      past_is i past = ap (λ (b : Bool). if b then image i else part_word []) (le-ltb i n past)

-- Parts of which the first ones are at rest, and the others quiet, are so all together: these belong to no entry.
pub all_rest : (sizes : Sizes) (names : List (List ℕ)) (tail : ℕ) (states : List Part) → 1 ≤ sizes.entries → IsAtRest mount_layout sizes.page sizes.entries names tail (take (1 + sizes.entries) states)
    → ((i : ℕ) → 1 + sizes.entries ≤ i → IsQuietPart (get_or states i [])) → IsAtRest mount_layout sizes.page sizes.entries names tail states
all_rest sizes names tail states some rest others = record {
  quiet = record { each = quiet_at };
  empty = λ image is.
      let n = 1 + sizes.entries in
      let here = rest.empty (cut n image) (cut_is n states image is) in
      record {
        header = reads_alike sizes names tail image (cut n image) (λ line word. sym (ap (λ (part : PartImage). part line word) (cut_at n image 0 (omega arith)))) here.header;
        log = record {
          uncommitted = λ number low.
              let slot = number % sizes.entries in
              let less = mod_below number sizes.entries (omega (arith, some)) in
              let same = ap (λ (part : PartImage). (entry_of part).commit) (cut_at n image (1 + slot) (omega (arith, less))) in
              λ committed. here.log.uncommitted number low (same ∙ committed);
        };
      };
}
  where
    quiet_at : (i : ℕ) → IsQuietPart (get_or states i [])
    quiet_at i = elim (cases_lt i (1 + sizes.entries)) [
      | inl less ↦ subst IsQuietPart (get_or-take (1 + sizes.entries) states i [] less) (rest.quiet.each i)
      | inr past ↦ others i (omega (arith, past))
    ]
