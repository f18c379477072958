-- Owned cells: the first of some that is a cell is the one that is taken out.
use Rattle.std.proofs.Common.{◌≡◌, ◌≢◌, ℕ, zero, suc, ◌<◌, if◌then◌else◌, List, [], ◌∷◌, length, slice_index_or, refl, sym, ap, ◌∙◌, arith}
use Rattle.std.specs.Prelude.{◌+◌, ◌-◌, ◌++◌, map, take, drop, reverse}
use Rattle.std.proofs.lemmas.List.{append_assoc, drop_more, length-drop, length-reverse, reverse-append, take-append-drop}
use Rattle.std.specs.List.{remove}
use Rattle.nv_core.specs.state.Words.{Word, HEADER, STORE, CLEANUP, ENTRY, same}
use Rattle.nv_core.specs.state.Passes.{without}
use Rattle.nv_core.proofs.state.Changes.{same_self, same_false}
use Rattle.nv_clean.specs.declared.owned.Cell.{Cell}
use Rattle.nv_clean.specs.declared.owned.Cell.TheVariants.{Cleaner, Header, Store, Cleanup, Entry}
use Rattle.nv_clean.specs.OwnedCells.{core_cell}

-- a cell is known by its word
cell_of_word : Word → Cell
cell_of_word HEADER = Header
cell_of_word (STORE file) = Store file
cell_of_word (CLEANUP page) = Cleanup page
cell_of_word (ENTRY slot) = Entry slot
cell_of_word word = Cleaner

known : (cell : Cell) → cell_of_word (core_cell cell) ≡ cell
unfolding cell_of_word
known Cleaner = refl
known Header = refl
known (Store file) = refl
known (Cleanup page) = refl
known (Entry slot) = refl

cells_differ : (one other : Cell) → other ≢ one → core_cell one ≢ core_cell other
cells_differ one other ne e = ne (sym (known other) ∙ ap cell_of_word (sym e) ∙ known one)

pub without_first : (cell : Cell) (items : List Cell) (i : ℕ) → i < length items → slice_index_or items i cell ≡ cell → ((j : ℕ) → j < i → slice_index_or items j cell ≢ cell)
    → without (core_cell cell) (map core_cell items) ≡ map core_cell (remove items i)
without_first cell [] i within found before = absurd (omega (arith, within))
without_first cell (first ∷ rest) zero within found before =
    ap (λ b. if b then map core_cell rest else core_cell first ∷ without (core_cell cell) (map core_cell rest)) (ap (λ c. same (core_cell cell) (core_cell c)) found ∙ same_self (core_cell cell))
without_first cell (first ∷ rest) (suc i) within found before =
    ap (λ b. if b then map core_cell rest else core_cell first ∷ without (core_cell cell) (map core_cell rest)) (same_false (core_cell cell) (core_cell first) (cells_differ cell first (before 0 (omega arith))))
    ∙ ap (λ l. core_cell first ∷ l) (without_first cell rest i (omega (arith, within)) found (λ j less. before (suc j) (omega (arith, less))))

pub without_none : (cell : Cell) (items : List Cell) → ((j : ℕ) → j < length items → slice_index_or items j cell ≢ cell) → map core_cell items ≡ without (core_cell cell) (map core_cell items)
without_none cell [] before = refl
without_none cell (first ∷ rest) before =
    sym (ap (λ b. if b then map core_cell rest else core_cell first ∷ without (core_cell cell) (map core_cell rest)) (same_false (core_cell cell) (core_cell first) (cells_differ cell first (before 0 (omega arith))))
    ∙ ap (λ l. core_cell first ∷ l) (sym (without_none cell rest (λ j less. before (suc j) (omega (arith, less))))))

-- ---- cells that lie the other way round

removed_between : {X : Type 0} (front : List X) (x : X) (behind : List X) → remove (front ++ x ∷ behind) (length front) ≡ front ++ behind
removed_between [] x behind = refl
removed_between (y ∷ front) x behind = ap (λ l. y ∷ l) (removed_between front x behind)

-- one of some, counted from behind
pub remove_reversed : {X : Type 0} (items : List X) (k i : ℕ) (d : X) → k < length items → i ≡ length items - 1 - k → remove (reverse items) i ≡ reverse (remove items k)
remove_reversed items k i d within from =
    let front = take k items in
    let x = slice_index_or items k d in
    let behind = drop (k + 1) items in
    let whole : items ≡ front ++ x ∷ behind = sym (take-append-drop k items) ∙ ap (λ l. front ++ l) (drop_more items k d within) in
    let turned : reverse items ≡ reverse behind ++ x ∷ reverse front =
    ap reverse whole ∙ reverse-append front (x ∷ behind) ∙ ap (λ l. l ++ reverse front) (reverse-append (x ∷ []) behind) ∙ append_assoc (reverse behind) (x ∷ []) (reverse front) in
    let at : i ≡ length (reverse behind) = omega (arith, within, from, length-reverse behind, length-drop (k + 1) items) in
    let same : k + 1 ≡ suc k = omega arith in
    rw (turned, at) (removed_between (reverse behind) x (reverse front) ∙ sym (reverse-append front behind) ∙ ap (λ n. reverse (front ++ drop n items)) same)
