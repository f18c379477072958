-- What a line in memory holds, and which line that is.
use Rattle.std.specs.Prelude.{◌≡◌, ℕ, ◌<◌, ◌≤◌, ◌==◌, if◌then◌else◌, Bool, true, false, List, length, map, take, slice_index_or, Option, Some, None, IfSome}
use Rattle.std.specs.List.{range_with_len}
use Rattle.nv_pmem.specs.Part.{Word, Line, newest_value}

-- how many values a flush found, by its mark: 16 where there was none since the last fence
abbrev pub noted : (mark : ℕ) → Option ℕ
noted mark = if mark == 16 then None else Some mark

-- what the rows have at a word's place
abbrev pub column : (rows : List (List ℕ)) (word : ℕ) → List ℕ
column rows word = map (λ row. slice_index_or row word 0) rows

-- a word: its oldest value, so many of those in the rows, and what its mark says
unfoldable pub held_word : (oldest counts marks : List ℕ) (rows : List (List ℕ)) (word : ℕ) → Word
held_word oldest counts marks rows word = record {
  oldest = slice_index_or oldest word 0;
  later = take (slice_index_or counts word 0) (column rows word);
  flushed = noted (slice_index_or marks word 0);
}

-- the line of eight such words
unfoldable pub held_line : (oldest counts marks : List ℕ) (rows : List (List ℕ)) → Line
held_line oldest counts marks rows = map (held_word oldest counts marks rows) (range_with_len 0 8)

-- Each word has at most 15 later values, of which its mark counts no more than there are; and beside them stands its newest value.
-- Where no word can be marked, none is; where nothing was stored behind a flush, each mark is of all values.
pub record HoldsLine (is_flushed is_behind : Bool) (newest oldest counts marks : List ℕ) (rows : List (List ℕ)) : Type 0 where
  pub wide : (length newest ≡ 8) × (length oldest ≡ 8) × (length counts ≡ 8) × (length marks ≡ 8)
  pub rows_wide : (row : ℕ) (none : List ℕ) → row < 15 → length (slice_index_or rows row none) ≡ 8
  pub long : length rows ≡ 15
  pub few : (word : ℕ) → slice_index_or counts word 0 ≤ 15
  pub noted : (word : ℕ) → word < 8 → IfSome (noted (slice_index_or marks word 0)) (λ count. count ≤ slice_index_or counts word 0)
  pub shown : (word : ℕ) → word < 8 → slice_index_or newest word 0 ≡ newest_value (held_word oldest counts marks rows word)
  pub unmarked : is_flushed ≡ false → (word : ℕ) → word < 8 → slice_index_or marks word 0 ≡ 16
  pub level : is_flushed ≡ true → is_behind ≡ false → (word : ℕ) → word < 8 → slice_index_or marks word 0 ≡ slice_index_or counts word 0
