-- Made parts: one that holds given bytes, and one made longer or shorter.
use Rattle.std.specs.Prelude.{ℕ, ◌*◌, ◌/◌, List, [], ◌∷◌, ◌++◌, length, map, take, drop, replicate}
use Rattle.std.specs.List.{range_with_len}
use Rattle.nv_pmem.specs.Part.{Part, blank_line}
use Rattle.nv_pmem.specs.Picked.{settled}
use Rattle.nv_pmem.specs.Steps.{word_in}

-- the eight words of 64 bytes, each little-endian
unfoldable pub words_in : List ℕ → List ℕ
words_in bytes = map (word_in bytes) (0 ∷ 1 ∷ 2 ∷ 3 ∷ 4 ∷ 5 ∷ 6 ∷ 7 ∷ [])

-- the bytes of a line, where lines of 64 bytes stand one after another
abbrev pub line_in : List ℕ → ℕ → List ℕ
line_in bytes line = take 64 (drop (64 * line) bytes)

-- the part that holds these bytes: each of its lines has had no other content
abbrev pub part_in : List ℕ → Part
part_in bytes = map (λ line. settled (words_in (line_in bytes line))) (range_with_len 0 (length bytes / 64))

-- a part of so many lines: those that it has are kept, new ones are zeros
abbrev pub resized : (lines : ℕ) → Part → Part
resized lines part = take lines (part ++ replicate lines blank_line)
