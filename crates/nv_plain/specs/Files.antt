-- Plain files: what a list of regular files holds.
use Rattle.std.specs.Prelude.{◌≡◌, ◌⊎◌, ℕ, ◌+◌, ◌-◌, ◌<◌, ◌≤◌, max, List, [], ◌∷◌, ◌++◌, length, take, drop, replicate, slice_index_or, slice_set}

-- The state of plain files: the bytes of each, by file number.
pub record Files : Type 0 where
  pub contents : List (List ℕ)

-- the bytes of a file
abbrev pub contents_of : Files → ℕ → List ℕ
contents_of files file = slice_index_or files.contents file []

-- files of which this one has other bytes
abbrev pub with_contents : Files → ℕ → List ℕ → Files
with_contents files file bytes = record { contents = slice_set files.contents file bytes }

-- so many empty files
abbrev pub empty_files : ℕ → Files
empty_files count = record { contents = replicate count [] }

-- What pread gives (POSIX.1-2017, read and pread): the bytes from the offset on, up to the count or the end of file.
abbrev pub bytes_at : List ℕ → ℕ → ℕ → List ℕ
bytes_at bytes at len = take len (drop at bytes)

-- the bytes, with zeros behind them up to a length
abbrev pub padded : List ℕ → ℕ → List ℕ
padded bytes len = bytes ++ replicate (len - length bytes) 0

-- What pwrite leaves (POSIX.1-2017, write and pwrite): the data from the offset on, the other bytes as they were, zeros
-- in a gap behind the old end. A write of no bytes changes nothing.
abbrev pub overwritten : List ℕ → ℕ → List ℕ → List ℕ
overwritten bytes at [] = bytes
overwritten bytes at (first ∷ rest) =
    take at (padded bytes at) ++ (first ∷ rest) ++ drop (at + length (first ∷ rest)) bytes

-- ---- what a write leaves of its file, byte by byte

-- The bytes of a write stand from its offset on.
abbrev pub WriteLeavesItsBytes : Type 0
WriteLeavesItsBytes =
    (bytes source : List ℕ) (at k : ℕ) → at ≤ k → k < at + length source
    → slice_index_or (overwritten bytes at source) k 0 ≡ slice_index_or source (k - at) 0

-- Each other byte is as it was, and those of a gap are 0.
abbrev pub WriteLeavesTheRest : Type 0
WriteLeavesTheRest =
    (bytes source : List ℕ) (at k : ℕ) → (k < at) ⊎ (at + length source ≤ k)
    → slice_index_or (overwritten bytes at source) k 0 ≡ slice_index_or bytes k 0

-- A write of some bytes makes its file reach to its end, and leaves it as long as it was where it is longer.
abbrev pub WriteReachesItsEnd : Type 0
WriteReachesItsEnd =
    (bytes source : List ℕ) (at : ℕ) → 0 < length source
    → length (overwritten bytes at source) ≡ max (length bytes) (at + length source)
