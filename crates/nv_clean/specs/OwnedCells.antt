-- Owned cells: which cell of the core each is, and what is read off those that a cleaner owns.
use Rattle.std.specs.Prelude.{◌≡◌, ℕ, ◌+◌, ◌*◌, Bool, true, false, List, [], ◌∷◌, Option, Some, None}
use Rattle.nv_plain.specs.Layouts.{mount_layout}
use Rattle.nv_core.specs.state.Words.{Word, CLEANER, HEADER, STORE, CLEANUP, ENTRY}
use Rattle.nv_core.specs.state.Cleaner.{CleanerOp as CoreCleanerOp, TakeCleaner as TakeCleanerOp}
use Rattle.nv_core.specs.state.Cleaner as cleaner
use Rattle.nv_op.specs.declared.word.Word.{Word as OpWord}
use Rattle.nv_op.specs.declared.word.Word.TheVariants as words
use Rattle.nv_op.specs.declared.cleaner_op.CleanerOp.{CleanerOp}
use Rattle.nv_op.specs.declared.cleaner_op.CleanerOp.TheVariants.{Take, Give}
use Rattle.nv_clean.specs.declared.owned.Cell.{Cell}
use Rattle.nv_clean.specs.declared.owned.Cell.TheVariants.{Cleaner, Header, Store, Cleanup, Entry}

-- how many a cleaner may own: CLEANER and HEADER, STORE of each file, and CLEANUP and the entry of each page of a group
abbrev pub most_cells : ℕ
most_cells = 2 + mount_layout.file_limit + 2 * mount_layout.group_limit

abbrev pub core_cell : Cell → Word
core_cell Cleaner = CLEANER
core_cell Header = HEADER
core_cell (Store file) = STORE file
core_cell (Cleanup page) = CLEANUP page
core_cell (Entry slot) = ENTRY slot

-- there is none
abbrev pub is_none : List Word → Bool
is_none [] = true
is_none (cell ∷ rest) = false

-- the first one is this
abbrev pub IsFirstCell : Option Cell → List Word → Type 0
IsFirstCell None [] = Unit {0}
IsFirstCell (Some word) (cell ∷ rest) = core_cell word ≡ cell
IsFirstCell word cells = ⊥

-- a word is one of a cell that a cleaner may own
abbrev pub IsCell : OpWord → Type 0
IsCell words.Cleaner = Unit {0}
IsCell words.Header = Unit {0}
IsCell (words.Store file) = Unit {0}
IsCell (words.Cleanup page) = Unit {0}
IsCell (words.Entry slot) = Unit {0}
IsCell word = ⊥

-- a lock that a step takes or gives back is one of these
abbrev pub MovesCells : CleanerOp → Type 0
MovesCells (Take word) = IsCell word
MovesCells (Give word) = IsCell word
MovesCells op = Unit {0}

-- a step of the core takes a cell, where it finds its word so
abbrev pub TakesCell : CoreCleanerOp → (found : ℕ) → Type 0
TakesCell (TakeCleanerOp most) found = found ≡ 0
TakesCell (cleaner.Take cell) found = found ≡ 0
TakesCell (cleaner.Hold number) found = Unit {0}
TakesCell op found = ⊥
