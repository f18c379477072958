-- Calls on one part of a row, and on a row that was lent: what they are of the row. The part was at an index of a list of parts,
-- and a new one stands there now.
use Rattle.std.proofs.Common.{◌≡◌, ℕ, ◌<◌, List, [], ◌++◌, length, take, drop, map, sum_by, get_or, slice_index_or, slice_set, sym, ap, ◌∙◌, subst, arith}
use Rattle.std.proofs.Math.Seq.{map-set_same}
use Rattle.std.proofs.lemmas.List.{take_at, get_or-map, map-set, length-map}
use Rattle.std.proofs.lemmas.List.Sums.{sum_by-set}
use Rattle.nv_pmem.specs.Rows.{on_part, DidRow, DidSomeRow}
use Rattle.nv_pmem.specs.Steps.{LineStep, PartHistory, DidLineStep, DidSome}
use Rattle.nv_pmem.proofs.RowLaws.{did_row_on, did_some_row_on}

-- what was done to one of some parts was done to the row of them
pub did_in_row : {X : Type 0} (history : X → PartHistory) (parts : List X) (i : ℕ) (was new d : X) {steps : List LineStep} → i < length parts → was ≡ get_or parts i d → DidLineStep steps (history was) (history new)
    → DidRow (on_part i steps) (map history parts) (map history (slice_set parts i new))
did_in_row history parts i was new d {steps} inside is did =
    let At : PartHistory → Type 0 = λ old. DidLineStep steps old (history new) in
    let To : List PartHistory → Type 0 = λ row. DidRow (on_part i steps) (map history parts) row in
    let old_is : history was ≡ slice_index_or (map history parts) i [] = ap history is ∙ sym (get_or-map history parts i d [] inside) in
    subst To (sym (map-set history parts i new))
    (did_row_on i (map history parts) (omega (arith, length-map parts history)) (subst At old_is did))

pub did_some_in_row : {X : Type 0} (history : X → PartHistory) (parts : List X) (i : ℕ) (was new d : X) {steps : List LineStep} → i < length parts → was ≡ get_or parts i d → DidSome steps (history was) (history new)
    → DidSomeRow (on_part i steps) (map history parts) (map history (slice_set parts i new))
did_some_in_row history parts i was new d {steps} inside is did =
    let At : PartHistory → Type 0 = λ old. DidSome steps old (history new) in
    let To : List PartHistory → Type 0 = λ row. DidSomeRow (on_part i steps) (map history parts) row in
    let old_is : history was ≡ slice_index_or (map history parts) i [] = ap history is ∙ sym (get_or-map history parts i d [] inside) in
    subst To (sym (map-set history parts i new))
    (did_some_row_on i (map history parts) (omega (arith, length-map parts history)) (subst At old_is did))

-- what is the same of the part is the same of the row
pub same_in_row : {X Y : Type 0} (f : X → Y) (parts : List X) (i : ℕ) (was new d : X) → was ≡ get_or parts i d → f new ≡ f was → map f (slice_set parts i new) ≡ map f parts
same_in_row f parts i was new d is same = map-set_same f parts i new d (same ∙ ap f is)

-- and so is the sum over it
pub same_sum_in_row : {X : Type 0} (f : X → ℕ) (parts : List X) (i : ℕ) (was new d : X) → i < length parts → was ≡ get_or parts i d → f new ≡ f was → sum_by f (slice_set parts i new) ≡ sum_by f parts
same_sum_in_row f parts i was new d inside is same = omega (arith, sum_by-set f parts i new d inside, same, ap f is)

-- What a call did to a slice, it did to the vector that lent it.
pub lent : {X : Type 0} (items now new : List X) (len : ℕ) → now ≡ items → length items ≡ len → length new ≡ length now → (R : List X → List X → Type 0) → R now new → R items (take len (new ++ drop (length new) items))
lent {X} items now new len same long still R did =
    let To : List X → Type 0 = R items in
    let From : List X → Type 0 = λ old. R old new in
    subst To (sym (take_at new (drop (length new) items) len (omega (arith, ap length same)))) (subst From same did)
