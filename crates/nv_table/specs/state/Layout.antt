-- Layout: how many words and slots a mount has, and which of them is which.
use Rattle.std.specs.Prelude.{ℕ, zero, suc, ◌==◌, ◌+◌, ◌-◌, ◌*◌, ◌/◌, ◌%◌, nat_lt, if◌then◌else◌, Option, Some, None}
use Rattle.nv_core.specs.state.Words.{Sizes, Word, STOP, ORDER, HEAD, TAIL, HAND, CLEANER, HEADER, SIZE, LENGTH, STORE, ENTRY, HINT, PAGE, CLEANUP, DIRTY, page_total, first_page_word}

-- how many words there are
abbrev pub word_total : Sizes → ℕ
word_total sizes = first_page_word sizes + 3 * page_total sizes

-- the single words, and those of a file and of a page
abbrev pub single : ℕ → Word
single place =
    if place == 0 then STOP
    else (if place == 1 then ORDER
    else (if place == 2 then HEAD
    else (if place == 3 then TAIL
    else (if place == 4 then HAND
    else (if place == 5 then CLEANER
    else HEADER)))))

abbrev pub of_file : (file which : ℕ) → Word
of_file file zero = SIZE file
of_file file (suc zero) = LENGTH file
of_file file which = STORE file

abbrev pub of_page : (page which : ℕ) → Word
of_page page zero = PAGE page
of_page page (suc zero) = CLEANUP page
of_page page which = DIRTY page

-- the word at a place
abbrev pub word_of_place : Sizes → (place : ℕ) → Word
word_of_place sizes place =
    if nat_lt place 7 then single place
    else (if nat_lt place (7 + 3 * sizes.files) then of_file ((place - 7) / 3) ((place - 7) % 3)
    else (if nat_lt place (7 + 3 * sizes.files + sizes.entries) then ENTRY (place - (7 + 3 * sizes.files))
    else (if nat_lt place (first_page_word sizes) then HINT (place - (7 + 3 * sizes.files + sizes.entries))
    else of_page ((place - first_page_word sizes) / 3) ((place - first_page_word sizes) % 3))))

-- ---- slots

-- how many slots there are: one for the header's part, and one for each entry's part, each store and each page's buffer
abbrev pub slot_total : Sizes → ℕ
slot_total sizes = 1 + sizes.entries + sizes.files + page_total sizes

-- the slot of a cell, if it keeps something
abbrev pub slot_of_cell : Sizes → Word → Option ℕ
slot_of_cell sizes HEADER = Some 0
slot_of_cell sizes (ENTRY entry) = Some (1 + entry)
slot_of_cell sizes (STORE file) = Some (1 + sizes.entries + file)
slot_of_cell sizes (PAGE page) = Some (1 + sizes.entries + sizes.files + page)
slot_of_cell sizes word = None

-- the cell of a slot
abbrev pub cell_of : Sizes → (slot : ℕ) → Word
cell_of sizes slot =
    if nat_lt slot 1 then HEADER
    else (if nat_lt slot (1 + sizes.entries) then ENTRY (slot - 1)
    else (if nat_lt slot (1 + sizes.entries + sizes.files) then STORE (slot - (1 + sizes.entries))
    else PAGE (slot - (1 + sizes.entries + sizes.files))))
