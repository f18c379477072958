-- Images: what a power failure may leave of a part.
use Rattle.std.specs.Prelude.{◌≡◌, ◌≢◌, ◌⊎◌, ℕ, ◌≤◌, List, [], ◌∷◌, ◌++◌, length, slice_index_or}
use Rattle.std.specs.Coded.{Coded-set, coded_ℕ, coded_list}
use Rattle.nv_plain.specs.Images.{PartImage}
use Rattle.nv_pmem.specs.Part.{Word, Line, Part, word_of, line_of}

-- A power failure may leave a word with this value: it is one of those that the word had since it was last made durable, the
-- durable one included.
abbrev pub MayHave : Word → ℕ → Type 0
MayHave word value =
    (count : ℕ) × (count ≤ length word.later) × (value ≡ slice_index_or (word.oldest ∷ word.later) count word.oldest)

-- A power failure may leave a line with these words: each by itself has one of its values.
unfoldable pub PowerMayLeave : Line → (ℕ → ℕ) → Type 0
PowerMayLeave line words = (word : ℕ) → MayHave (word_of line word) (words word)

-- An image of a part: each word of each line has, freely, one of its values. A line that the part doesn't have is zeros.
pub record IsPartImage (part : Part) (image : PartImage) : Type 0 where
  pub lines : (line : ℕ) → PowerMayLeave (line_of part line) (image line)

-- each image of a part has a property
abbrev pub InEachPartImage : (PartImage → Type 0) → Part → Type 0
InEachPartImage P part = (image : PartImage) → IsPartImage part image → P image

-- the values that a line's words had since they were last made durable
abbrev pub later_values : Line → List ℕ
later_values [] = []
later_values (word ∷ line) = word.later ++ later_values line

-- A line is quiet where each of its words has one value, and a part where each line is.
unfoldable pub IsQuietLine : Line → Type 0
IsQuietLine line = later_values line ≡ []

-- that has one proof at most
pub IsQuietLine-prop : (line : Line) → IsProp (IsQuietLine line)
unfolding IsQuietLine
IsQuietLine-prop line = Coded-set (coded_list coded_ℕ) (later_values line) []

pub record IsQuietPart (part : Part) : Type 0 where
  pub lines : (line : ℕ) → IsQuietLine (line_of part line)

-- An image is one of an earlier state, but that this word may have this value.
pub record IsOldOrStored (was : Part) (line word value : ℕ) (image : PartImage) : Type 0 where
  pub before : PartImage
  pub is : IsPartImage was before
  pub stored : (image line word ≡ before line word) ⊎ (image line word ≡ value)
  pub others : (i j : ℕ) → (i ≢ line) ⊎ (j ≢ word) → image i j ≡ before i j
