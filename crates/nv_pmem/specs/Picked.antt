-- Picked images: what a picker leaves of lines that lose power.
use Rattle.std.specs.Prelude.{ℕ, ◌+◌, ◌%◌, ◌==◌, if◌then◌else◌, List, [], ◌∷◌, length, map, slice_index_or}
use Rattle.nv_pmem.specs.Draws.{Draws, next_word, after_draw}
use Rattle.nv_pmem.specs.Part.{Word, Line, Part, settled_word}
use Rattle.nv_pmem.specs.declared.picker.Pick.{Pick}
use Rattle.nv_pmem.specs.declared.picker.Pick.TheVariants.{Old, New, Torn, Mixed, Seed}

-- a value of a word, counted from the oldest
unfoldable pub value_of : Word → ℕ → ℕ
value_of word count = slice_index_or (word.oldest ∷ word.later) count word.oldest

-- Which value of the word at a place of its line a pick takes, and the draws after it. A seed draws where there are several: the
-- word drawn, modulo how many.
abbrev pub taken : Pick → Draws → (at : ℕ) → Word → ℕ × Draws
taken Old draws at word = (0, draws)
taken New draws at word = (length word.later, draws)
taken Torn draws at word = (0, draws)
taken Mixed draws at word = (if at % 2 == 0 then 0 else length word.later, draws)
taken (Seed seed) draws at word =
    if length word.later == 0 then (0, draws) else (next_word draws % (length word.later + 1), after_draw draws)

-- a line of which each word has one value
abbrev pub settled : List ℕ → Line
settled content = map settled_word content

-- the word at a place of its line after a power failure, and the draws after it
unfoldable pub picked_word : Draws → (at : ℕ) → Word → Word × Draws
picked_word draws at word =
    let one = taken draws.pick draws at word in
    (settled_word (value_of word one.0), one.1)

-- those of a line from this place on: word by word, rising
unfoldable pub picked_from : Draws → (at : ℕ) → Line → Line × Draws
picked_from draws at [] = ([], draws)
picked_from draws at (word ∷ line) =
    let one = picked_word draws at word in
    let rest = picked_from one.1 (at + 1) line in
    (one.0 ∷ rest.0, rest.1)

-- the line after a power failure, and the draws after it
unfoldable pub picked_line : Draws → Line → Line × Draws
picked_line draws line = picked_from draws 0 line

-- the part after a power failure, and the draws after it: line by line, rising
unfoldable pub picked : Draws → Part → Part × Draws
picked draws [] = ([], draws)
picked draws (line ∷ part) =
    let one = picked_line draws line in
    let rest = picked one.1 part in
    (one.0 ∷ rest.0, rest.1)
