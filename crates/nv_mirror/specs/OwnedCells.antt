-- Owned cells: what a call owns, the last taken first.
use Rattle.std.specs.Prelude.{ℕ, zero, suc, ◌+◌, Bool, true, false, List, [], ◌∷◌}
use Rattle.nv_core.specs.state.Words.{Sizes, Word, PAGE, ENTRY}
use Rattle.nv_core.specs.state.Words.{slot_of_entry}

-- so many cells from one on
abbrev pub cells_from : (cell : ℕ → Word) (from count : ℕ) → List Word
cells_from cell from zero = []
cells_from cell from (suc count) = cell (from + count) ∷ cells_from cell from count

-- so many pages from one on, and the entries of so many numbers
abbrev pub pages_from : (page count : ℕ) → List Word
pages_from page count = cells_from PAGE page count

abbrev pub entries_from : Sizes → (number count : ℕ) → List Word
entries_from sizes number count = cells_from (λ n. ENTRY (slot_of_entry sizes n)) number count

-- with another cell, if it was taken
abbrev pub with_if : Bool → Word → List Word → List Word
with_if true cell owned = cell ∷ owned
with_if false cell owned = owned
