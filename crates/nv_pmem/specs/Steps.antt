-- Steps: what the calls of a part do, one after another, and the states that it has had.
use Rattle.std.specs.Prelude.{ℕ, ◌*◌, List, [], ◌∷◌, take, drop, map, slice_set}
use Rattle.std.specs.Int.{from_le_bytes, w64}
use Rattle.nv_pmem.specs.Part.{Part, line_of, stored, flushed, fenced}
use Rattle.nv_pmem.specs.Runs.{Ran, RanSome, grown}

-- what one call does to a part
pub data LineStep : Type 0 where
  StoreWord : (line word value : ℕ) → LineStep
  Flush : (line : ℕ) → LineStep
  Fence : LineStep

-- the part after a step
abbrev pub after_line_step : LineStep → Part → Part
after_line_step (StoreWord line word value) part = slice_set part line (stored word value (line_of part line))
after_line_step (Flush line) part = slice_set part line (flushed (line_of part line))
after_line_step Fence part = map fenced part

-- The states that a part has had, the present one first. It is empty for one that doesn't tell.
abbrev pub PartHistory : Type 0
PartHistory = List Part

-- all of the steps were made, in their order
abbrev pub DidLineStep : List LineStep → PartHistory → PartHistory → Type 0
DidLineStep steps old new = Ran (grown after_line_step) steps old new

-- some of the steps were made, in their order: the first so many
abbrev pub DidSome : List LineStep → PartHistory → PartHistory → Type 0
DidSome steps old new = RanSome (grown after_line_step) steps old new

-- word i of eight, of 64 bytes, little-endian
abbrev pub word_in : List ℕ → ℕ → ℕ
word_in bytes i = from_le_bytes w64 (take 8 (drop (8 * i) bytes))

-- the stores of a whole line: its eight words, rising
unfoldable pub line_stores : ℕ → List ℕ → List LineStep
line_stores line bytes = map (λ i. StoreWord line i (word_in bytes i)) (0 ∷ 1 ∷ 2 ∷ 3 ∷ 4 ∷ 5 ∷ 6 ∷ 7 ∷ [])

-- a word is stored and made durable
unfoldable pub durable_store : (line word value : ℕ) → List LineStep
durable_store line word value = StoreWord line word value ∷ Flush line ∷ Fence ∷ []
