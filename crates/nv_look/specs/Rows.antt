-- Rows: which numbers a row of a listing has.
use Rattle.std.specs.Prelude.{ℕ, ◌+◌, ◌^◌, ◌≤◌, List, All}
use Rattle.nv_look.specs.declared.listing.Row.{Row}
use Rattle.nv_look.specs.declared.listing.Row.TheVariants.{Group, Bad}

-- the first number of a row, and the one behind it: a group has all its numbers, a bad number stands by itself
abbrev pub row_start : Row → ℕ
row_start (Group leader count file at len) = leader
row_start (Bad number) = number

abbrev pub row_end : Row → ℕ
row_end (Group leader count file at len) = leader + count
row_end (Bad number) = number + 1

-- no row of a log ends past this
abbrev pub IsInRange : Row → Type 0
IsInRange row = row_end row ≤ 2 ^ 61

abbrev pub AreInRange : List Row → Type 0
AreInRange rows = All IsInRange rows
