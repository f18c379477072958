-- Needs: which lines the parts of a region must have.
use Rattle.std.specs.Prelude.{ℕ, ◌+◌, ◌*◌, ◌≤◌, min, List, [], ◌∷◌, length, take, drop, sum_by, All}
use Rattle.nv_plain.specs.Layouts.{Layout}
use Rattle.nv_pmem.specs.Limits.{entry_lines}
use Rattle.nv_pmem.specs.Room.{Room}
use Rattle.nv_pmem.specs.Steps.{PartHistory}

-- what the header's part tells; nothing, where there is no part
abbrev pub header_history : List PartHistory → PartHistory
header_history [] = []
header_history (history ∷ others) = history

-- the lines of the header's part; none, where there is no part
abbrev pub header_lines_in : List Room → ℕ
header_lines_in [] = 0
header_lines_in (room ∷ others) = room.lines

-- The parts of a region have the lines that it needs: those of the header, and those of each entry.
pub record HasLines (layout : Layout) (page entries : ℕ) (rooms : List Room) : Type 0 where
  pub header : layout.header_lines ≤ header_lines_in rooms
  pub count : 1 + entries ≤ length rooms
  pub each : All (λ room. entry_lines page ≤ room.lines) (take entries (drop 1 rooms))

-- all lines that a region needs
abbrev pub lines_wanted : Layout → (page entries : ℕ) → ℕ
lines_wanted layout page entries = layout.header_lines + entries * entry_lines page

-- of the lines that a region needs, those that its parts have
abbrev pub lines_found : Layout → (page entries : ℕ) → List Room → ℕ
lines_found layout page entries [] = 0
lines_found layout page entries (header ∷ others) =
    min layout.header_lines header.lines + sum_by (λ room. min (entry_lines page) room.lines) (take entries others)
