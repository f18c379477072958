-- Kept runs: what a power failure makes of the calls that a run left open, in whatever order they are listed.
use Rattle.std.proofs.Common.{◌≡◌, ℕ, zero, suc, Bool, true, false, if◌then◌else◌, List, [], ◌∷◌, ◌++◌, length, map, get_or, refl, sym, ap, subst, ◌∙◌, arith}
use Rattle.std.specs.Prelude.{All, IsPermutation, filter, not, slice_set}
use Rattle.std.specs.List.{flat_map, swap}
use Rattle.std.proofs.lemmas.List.{append-nil, length-map}
use Rattle.std.proofs.lemmas.List.Elements.{All-nil, All-cons, All-head, All-tail}
use Rattle.std.proofs.lemmas.List.Sorted.{All-permutation, IsPermutation-append_left, IsPermutation-filter_both, IsPermutation-keeps, IsPermutation-refl, IsPermutation-swap, IsPermutation-sym, IsPermutation-trans}
use Rattle.nv_plain.specs.Recovered.{recovered}
use Rattle.nv_plain.specs.Made.{after_calls}
use Rattle.nv_core.specs.state.Passes.{Fault, is_write}
use Rattle.nv_calls.specs.histories.Faults.{OpenWrite, open_in}
use Rattle.nv_runner.specs.OpenRuns.{LeftOpenAreKept, open_of}
use Rattle.nv_runner.specs.OpenWrites.{kept_open}
use Rattle.nv_runner.proofs.OpenLaws.{kept_are_open}
use Rattle.nv_runner.proofs.OpenRunLaws.{open_append}

-- ---- an order of some values, as one of those that they are made of

module _ {X Y : Type 0} (f : X → Y) where
  set_mapped : (xs : List X) (k : ℕ) (x : X) → slice_set (map f xs) k (f x) ≡ map f (slice_set xs k x)
  set_mapped [] k x = refl
  set_mapped (y ∷ xs) zero x = refl
  set_mapped (y ∷ xs) (suc k) x = ap (λ ys. f y ∷ ys) (set_mapped xs k x)

  got_mapped : (d : X) (xs : List X) (k : ℕ) → get_or (map f xs) k (f d) ≡ f (get_or xs k d)
  got_mapped d [] k = refl
  got_mapped d (x ∷ xs) zero = refl
  got_mapped d (x ∷ xs) (suc k) = got_mapped d xs k

  both_mapped : (d : X) (xs : List X) (i j : ℕ)
      → slice_set (slice_set (map f xs) i (get_or (map f xs) j (f d))) j (get_or (map f xs) i (f d)) ≡ map f (slice_set (slice_set xs i (get_or xs j d)) j (get_or xs i d))
  both_mapped d xs i j =
      ap (λ y. slice_set (slice_set (map f xs) i y) j (get_or (map f xs) i (f d))) (got_mapped d xs j)
      ∙ ap (λ y. slice_set (slice_set (map f xs) i (f (get_or xs j d))) j y) (got_mapped d xs i)
      ∙ ap (λ ys. slice_set ys j (f (get_or xs i d))) (set_mapped xs i (get_or xs j d))
      ∙ set_mapped (slice_set xs i (get_or xs j d)) j (get_or xs i d)

  swap_mapped : (xs : List X) (i j : ℕ) → swap (map f xs) i j ≡ map f (swap xs i j)
  swap_mapped [] i j = refl
  swap_mapped (d ∷ xs) i j = both_mapped d (d ∷ xs) i j

  record IsOrderOf (xs : List X) (ys : List Y) : Type 0 where
    pub order : List X
    pub moved : IsPermutation xs order
    pub is : map f order ≡ ys

  ordered : (xs : List X) (ys : List Y) → IsPermutation (map f xs) ys → IsOrderOf xs ys
  ordered xs ys =
      IsPermutation-keeps (map f xs) (λ l. IsOrderOf xs l) (record { order = xs; moved = IsPermutation-refl xs; is = refl })
      (λ l i j within also so_far.
      let long : length so_far.order ≡ length l = sym (length-map so_far.order f) ∙ ap length so_far.is in
      record {
        order = swap so_far.order i j;
        moved = IsPermutation-trans xs so_far.order (swap so_far.order i j) so_far.moved
            (IsPermutation-swap so_far.order (swap so_far.order i j) i j (omega (arith, long, within)) (omega (arith, long, also)) refl);
        is = sym (swap_mapped so_far.order i j) ∙ ap (λ l. swap l i j) so_far.is;
      }) ys

-- ---- an order of some open writes, as one of the faults

abbrev open_write : Fault → OpenWrite
open_write fault = record { call = fault.call; first = fault.first }

abbrev is_other : Fault → Bool
is_other fault = not (is_write fault.call)

-- writes alone
open_writes_alone : (faults : List Fault) → All (λ fault. is_write fault.call ≡ true) faults → open_in faults ≡ map open_write faults
open_writes_alone [] all = refl
open_writes_alone (fault ∷ before) all =
    ap (λ write. if write then open_write fault ∷ open_in before else open_in before) (All-head (λ (f : Fault). is_write f.call ≡ true) fault before all)
    ∙ ap (λ writes. open_write fault ∷ writes) (open_writes_alone before (All-tail (λ (f : Fault). is_write f.call ≡ true) fault before all))

writes_of : (faults : List Fault) → open_in faults ≡ map open_write (filter (λ (f : Fault). is_write f.call) faults)
writes_of [] = refl
writes_of (fault ∷ before) = by (is_write fault.call) (writes_of before)
  where
    by : (write : Bool) → open_in before ≡ map open_write (filter (λ (f : Fault). is_write f.call) before)
        → (if write then open_write fault ∷ open_in before else open_in before)
        ≡ map open_write (if write then fault ∷ filter (λ (f : Fault). is_write f.call) before else filter (λ (f : Fault). is_write f.call) before)
    by true same = ap (λ writes. open_write fault ∷ writes) same
    by false same = same

are_writes : (faults : List Fault) → All (λ fault. is_write fault.call ≡ true) (filter (λ (f : Fault). is_write f.call) faults)
are_writes [] = All-nil (λ (f : Fault). is_write f.call ≡ true)
are_writes (fault ∷ before) = by (is_write fault.call) refl (are_writes before)
  where
    by : (write : Bool) → is_write fault.call ≡ write → All (λ fault. is_write fault.call ≡ true) (filter (λ (f : Fault). is_write f.call) before)
        → All (λ fault. is_write fault.call ≡ true) (if write then fault ∷ filter (λ (f : Fault). is_write f.call) before else filter (λ (f : Fault). is_write f.call) before)
    by true is all = All-cons (λ (f : Fault). is_write f.call ≡ true) fault (filter (λ (f : Fault). is_write f.call) before) is all
    by false is all = all

-- no writes
none_open : (faults : List Fault) → open_in (filter is_other faults) ≡ []
none_open [] = refl
none_open (fault ∷ before) = by (is_write fault.call) refl (none_open before)
  where
    by : (write : Bool) → is_write fault.call ≡ write → open_in (filter is_other before) ≡ [] → open_in (if not write then fault ∷ filter is_other before else filter is_other before) ≡ []
    by true is none = none
    by false is none = ap (λ write. if write then open_write fault ∷ open_in (filter is_other before) else open_in (filter is_other before)) is ∙ none

pub record HasOrder (faults : List Fault) (writes : List OpenWrite) : Type 0 where
  pub order : List Fault
  pub moved : IsPermutation faults order
  pub is : open_in order ≡ writes

pub order_of : (faults : List Fault) (writes : List OpenWrite) → IsPermutation (open_in faults) writes → HasOrder faults writes
order_of faults writes moved =
    let some = filter (λ (f : Fault). is_write f.call) faults in
    let others = filter is_other faults in
    let at = ordered open_write some writes (subst (λ l. IsPermutation l writes) (writes_of faults) moved) in
    record {
      order = at.order ++ others;
      moved = IsPermutation-trans faults (some ++ others) (at.order ++ others)
          (IsPermutation-filter_both (λ (f : Fault). is_write f.call) is_other (λ f. refl) faults) (IsPermutation-append_left others some at.order at.moved);
      is = open_append at.order others ∙ ap (λ writes. open_in at.order ++ writes) (none_open faults) ∙ append-nil (open_in at.order)
          ∙ open_writes_alone at.order (All-permutation (λ (f : Fault). is_write f.call ≡ true) some at.order at.moved (are_writes faults)) ∙ at.is;
    }

pub left_open_are_kept : LeftOpenAreKept
left_open_are_kept fds left faults files image bytes moved recovers =
    let open_calls = flat_map (open_of fds) left in
    let first = (recovered image bytes).first in
    let groups = (recovered image bytes).groups in
    let at = order_of faults open_calls (IsPermutation-sym open_calls (open_in faults) moved) in
    recovers at.order at.moved ∙ ap (λ calls. after_calls calls files) (kept_are_open first groups at.order ∙ ap (kept_open first groups) at.is)
