-- Persistent memory: the words of a part's lines, and which values each may still have after a power failure.
use Rattle.std.specs.Prelude.{ℕ, ◌+◌, ◌-◌, List, [], ◌∷◌, ◌++◌, length, map, drop, replicate, slice_index, slice_index_or, slice_set, Option, Some, None}

-- A word of a line: the value that was last made durable and those that it had since, oldest first; and how many of these
-- later values a flush found, if there was one since the last fence.
pub record Word : Type 0 where
  pub oldest : ℕ
  pub later : List ℕ
  pub flushed : Option ℕ

-- a line is a row of eight words
abbrev pub Line : Type 0
Line = List Word

-- a part is a row of lines
abbrev pub Part : Type 0
Part = List Line

-- a word that has one value, durable
abbrev pub settled_word : ℕ → Word
settled_word value = record { oldest = value; later = []; flushed = None }

-- a line of zeros, durable
abbrev pub blank_line : Line
blank_line = replicate 8 (settled_word 0)

-- a word of a line; one that the line doesn't have is 0
abbrev pub word_of : Line → ℕ → Word
word_of line word = slice_index_or line word (settled_word 0)

-- ---- a word

-- the value that a load sees
abbrev pub newest_value : Word → ℕ
newest_value word = slice_index_or word.later (length word.later - 1) word.oldest

-- A store appends its value, also where it is the newest one already.
abbrev pub stored_value : ℕ → Word → Word
stored_value value word = record { oldest = word.oldest; later = word.later ++ value ∷ []; flushed = word.flushed }

-- A flush notes the newest value.
abbrev pub flushed_word : Word → Word
flushed_word word = record { oldest = word.oldest; later = word.later; flushed = Some (length word.later) }

-- A fence makes the value that a flush noted the oldest possible one.
abbrev pub fenced_at : Word → Option ℕ → Word
fenced_at word None = word
fenced_at word (Some count) = record {
  oldest = slice_index_or (word.oldest ∷ word.later) count (newest_value word);
  later = drop count word.later;
  flushed = None;
}

abbrev pub fenced_word : Word → Word
fenced_word word = fenced_at word word.flushed

-- ---- a line

-- the words that loads see
unfoldable pub newest : Line → List ℕ
newest line = map newest_value line

-- one of them
unfoldable pub word_at : List ℕ → ℕ → ℕ
word_at content word = slice_index content word

-- A store changes its word alone.
unfoldable pub stored : ℕ → ℕ → Line → Line
stored word value line =
    slice_set (line ++ replicate (word + 1 - length line) (settled_word 0)) word (stored_value value (word_of line word))

-- A flush and a fence are of each word.
unfoldable pub flushed : Line → Line
flushed line = map flushed_word line

unfoldable pub fenced : Line → Line
fenced line = map fenced_word line

-- ---- a part

-- a line of a part
abbrev pub line_of : Part → ℕ → Line
line_of part line = slice_index_or part line blank_line

-- the word that a load gives
abbrev pub part_word : Part → ℕ → ℕ → ℕ
part_word part line word = word_at (newest (line_of part line)) word
