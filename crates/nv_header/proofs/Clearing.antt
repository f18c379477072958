-- The commit words of the entries, cleared one after another.
use Rattle.std.proofs.Common.{◌≡◌, ℕ, ◌+◌, ◌-◌, ◌<◌, List, ◌++◌, sym, ap, ◌∙◌, subst, arith}
use Rattle.std.specs.List.{flat_map, range_with_len}
use Rattle.nv_pmem.specs.Rows.{RowStep, on_part, row_grown, DidRow, DidSomeRow}
use Rattle.nv_pmem.specs.Steps.{PartHistory, durable_store}
use Rattle.nv_pmem.proofs.StepLaws.{did_none, did_did, did_did_some, did_some_front}
use Rattle.nv_header.specs.HeaderSteps.{clear_steps}
use Rattle.nv_pmem.proofs.Ranges.{flat_map-split, flat_map-more}

-- those of one entry
abbrev pub clear_one : ℕ → List RowStep
clear_one i = on_part i (durable_store 0 0 0)

clear_steps-more : (k i : ℕ) → i ≡ 1 + k → clear_steps (k + 1) ≡ clear_steps k ++ clear_one i
unfolding clear_steps
clear_steps-more k i is = flat_map-more clear_one 1 k ∙ ap (λ j. flat_map clear_one (range_with_len 1 k) ++ clear_one j) (sym is)

clear_steps-split : (entries k i : ℕ) → i ≡ 1 + k → k < entries → clear_steps entries ≡ (clear_steps k ++ clear_one i) ++ flat_map clear_one (range_with_len (1 + (k + 1)) (entries - (k + 1)))
unfolding clear_steps
clear_steps-split entries k i is inside =
    let all : entries ≡ k + 1 + (entries - (k + 1)) = omega arith in
    ap (λ count. flat_map clear_one (range_with_len 1 count)) all
    ∙ flat_map-split clear_one 1 (k + 1) (entries - (k + 1))
    ∙ ap (λ front. front ++ flat_map clear_one (range_with_len (1 + (k + 1)) (entries - (k + 1)))) (clear_steps-more k i is)

-- none yet
pub cleared_none : (row : List PartHistory) → DidRow (clear_steps 0) row row
unfolding clear_steps
cleared_none row = did_none row_grown row

-- one entry more
pub cleared_more : (k i next : ℕ) {old between new : List PartHistory} → i ≡ 1 + k → next ≡ k + 1 → DidRow (clear_steps k) old between → DidRow (clear_one i) between new → DidRow (clear_steps next) old new
cleared_more k i next {old} {between} {new} is next_is before one =
    let At : List RowStep → Type 0 = λ steps. DidRow steps old new in
    let Next : ℕ → Type 0 = λ count. DidRow (clear_steps count) old new in
    subst Next (sym next_is) (subst At (sym (clear_steps-more k i is)) (did_did before one))

-- and one that may have failed
pub cleared_some_more : (entries k i : ℕ) {old between new : List PartHistory} → i ≡ 1 + k → k < entries → DidRow (clear_steps k) old between → DidSomeRow (clear_one i) between new → DidSomeRow (clear_steps entries) old new
cleared_some_more entries k i {old} {between} {new} is inside before one =
    let At : List RowStep → Type 0 = λ steps. DidSomeRow steps old new in
    subst At (sym (clear_steps-split entries k i is inside))
    (did_some_front (flat_map clear_one (range_with_len (1 + (k + 1)) (entries - (k + 1)))) (did_did_some before one))

-- all of them
pub cleared_all : (entries k : ℕ) {old new : List PartHistory} → k ≡ entries → DidRow (clear_steps k) old new → DidRow (clear_steps entries) old new
cleared_all entries k {old} {new} is did = let At : ℕ → Type 0 = λ count. DidRow (clear_steps count) old new in subst At is did
