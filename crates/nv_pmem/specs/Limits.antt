-- The limits of a region's geometry.
use Rattle.std.specs.Prelude.{◌≡◌, ℕ, ◌+◌, ◌/◌, ◌%◌, ◌≤◌}

-- a page has 64 to 4,096 bytes, a multiple of 64
pub record IsPageSize (page : ℕ) : Type 0 where
  pub least : 64 ≤ page
  pub most : page ≤ 4096
  pub whole_lines : page % 64 ≡ 0

-- a log has 2 to 1,024 entries
pub record IsEntryCount (entries : ℕ) : Type 0 where
  pub least : 2 ≤ entries
  pub most : entries ≤ 1024

-- the lines of an entry's part: one of fields, and a page
abbrev pub entry_lines : ℕ → ℕ
entry_lines page = 1 + page / 64
