-- Owned cells: those in a row, split and given back.
use Rattle.std.proofs.Common.{◌≡◌, ℕ, zero, suc, ◌+◌, ◌-◌, ◌<◌, ◌≤◌, false, if◌then◌else◌, List, [], ◌∷◌, ◌++◌, ap, ap₂, ◌∙◌, arith}
use Rattle.nv_core.specs.state.Passes.{without, times}
use Rattle.nv_core.specs.state.Words.{Sizes, Word, ENTRY, index, same}
use Rattle.nv_core.specs.state.Words.{slot_of_entry}
use Rattle.nv_core.proofs.state.Changes.{same_false}
use Rattle.nv_core.proofs.state.SlotLaws.{apart}
use Rattle.nv_table.specs.passes.PassesMade.{IsShownStill}
use Rattle.nv_table.specs.state.Layout.{slot_total, cell_of}
use Rattle.nv_table.specs.state.Views.{pass_of, still_owned, slot_times}
use Rattle.nv_table.specs.state.States.{PassState}
use Rattle.nv_table.proofs.steps.OwnedSlotLaws.{still_owned_all}
use Rattle.nv_mirror.specs.OwnedCells.{cells_from, entries_from}
use Rattle.nv_mirror.proofs.PageLaws.{without_first}

-- the first of a row stands behind the others
pub split_first : (cell : ℕ → Word) (from count : ℕ) (rest : List Word) → cells_from cell from (suc count) ++ rest ≡ cells_from cell (from + 1) count ++ cell from ∷ rest
split_first cell from zero rest = ap (λ n. cell n ∷ rest) (let e : from + 0 ≡ from = omega arith in e)
split_first cell from (suc count) rest =
    ap₂ (λ n cells. cell n ∷ cells) (let e : from + suc count ≡ from + 1 + count = omega arith in e) (split_first cell from count rest)

-- ---- what is given back

-- what stands behind a row of others
pub dropped_behind : (cell : ℕ → Word) (given : Word) (from count : ℕ) (rest : List Word) → ((i : ℕ) → i < count → same given (cell (from + i)) ≡ false)
    → without given (cells_from cell from count ++ given ∷ rest) ≡ cells_from cell from count ++ rest
dropped_behind cell given from zero rest others = without_first given rest
dropped_behind cell given from (suc count) rest others =
    ap (λ b. if b then cells_from cell from count ++ given ∷ rest else cell (from + count) ∷ without given (cells_from cell from count ++ given ∷ rest)) (others count (omega arith))
    ∙ ap (λ cells. cell (from + count) ∷ cells) (dropped_behind cell given from count rest (λ i low. others i (omega (arith, low))))

-- ---- entries

abbrev entry_at : Sizes → (number : ℕ) → Word
entry_at sizes number = ENTRY (slot_of_entry sizes number)

-- those of numbers less than the log's entries apart are others
pub other_entry : (sizes : Sizes) (one other : ℕ) → one < other → other < one + sizes.entries → same (entry_at sizes one) (entry_at sizes other) ≡ false
other_entry sizes one other less near = same_false (entry_at sizes one) (entry_at sizes other) (λ e. apart sizes.entries one other less near (ap index e))

-- the first of a write's entries that it fills still is given back
pub entry_dropped : (sizes : Sizes) (first done count : ℕ) (rest : List Word) → done < count → count ≤ sizes.entries
    → without (entry_at sizes (first + done)) (entries_from sizes (first + done) (count - done) ++ rest) ≡ entries_from sizes (first + (done + 1)) (count - (done + 1)) ++ rest
entry_dropped sizes first done count rest low few =
    ap (λ n. without (entry_at sizes (first + done)) (entries_from sizes (first + done) n ++ rest)) (let e : count - done ≡ suc (count - (done + 1)) = omega (arith, low) in e)
    ∙ ap (without (entry_at sizes (first + done))) (split_first (entry_at sizes) (first + done) (count - (done + 1)) rest)
    ∙ dropped_behind (entry_at sizes) (entry_at sizes (first + done)) (first + done + 1) (count - (done + 1)) rest
    (λ i within. other_entry sizes (first + done) (first + done + 1 + i) (omega arith) (omega (arith, low, few, within)))
    ∙ ap (λ n. entries_from sizes n (count - (done + 1)) ++ rest) (let e : first + done + 1 ≡ first + (done + 1) = omega arith in e)

-- ---- the slots that a pass owns

-- the slot of a cell is owned as often as the cell is held
pub slot_still_owned : (now : PassState) (slot : ℕ) (cell : Word) → IsShownStill now → (pass_of now.view).left ≡ [] → slot < slot_total now.view.opened.sizes → cell_of now.view.opened.sizes slot ≡ cell
    → slot_times slot now.now ≡ times cell (pass_of now.view).owned
slot_still_owned now slot cell still left low is = still.each slot low ∙ ap (λ c. times c (still_owned (pass_of now.view))) is ∙ ap (times cell) (still_owned_all (pass_of now.view) left)
