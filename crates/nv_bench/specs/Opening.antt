-- Opening: the parts that a bench gives out as those of its region.
use Rattle.std.specs.Prelude.{ℕ, ◌<◌, ◌≤◌, ◌==◌, ◌&&◌, nat_le, max, Bool, if◌then◌else◌, List, [], ◌∷◌, map, length, slice_index_or, Option, Some, None}
use Rattle.std.specs.List.{range_with_len}
use Rattle.nv_plain.specs.Images.{header_magic, header_of}
use Rattle.nv_plain.specs.Layouts.{Layout, mount_layout, version_1}
use Rattle.nv_pmem.specs.Limits.{entry_lines}
use Rattle.nv_pmem.specs.Images.{IsQuietPart}
use Rattle.nv_pmem.specs.Made.{resized}
use Rattle.nv_pmem.specs.Part.{Part}
use Rattle.nv_pmem.specs.Room.{Room}
use Rattle.nv_pmem.specs.Rows.{row_words}
use Rattle.nv_pmem.specs.Steps.{PartHistory}
use Rattle.nv_pmem.specs.declared.geometry.Geometry.{Geometry}

-- Parts are blank where there is no part 0, it has no line, or word 0 of its line 0 is 0.
abbrev pub is_blank : List Part → Bool
is_blank parts = (header_of (row_words parts)).magic == 0

-- Parts are of version 1 where their header has the magic and says that version, and part 0 has the lines of such a header.
abbrev pub is_of_version_1 : List Part → Bool
is_of_version_1 parts =
    (header_of (row_words parts)).magic == header_magic && (header_of (row_words parts)).version == version_1.version
    && nat_le version_1.header_lines (length (slice_index_or parts 0 []))

-- the parts of a geometry, made of these: the header's, and one for each entry
abbrev pub sized : Layout → Geometry → List Part → List Part
sized layout geometry parts =
    resized layout.header_lines (slice_index_or parts 0 [])
    ∷ map (λ i. resized (entry_lines geometry.page) (slice_index_or parts i [])) (range_with_len 1 geometry.entries)

-- the parts, with lines of zeros behind those of part 0, up to those of a header
abbrev pub lengthened : Layout → List Part → List Part
lengthened layout [] = []
lengthened layout (header ∷ others) = resized (max layout.header_lines (length header)) header ∷ others

-- The parts that stand there are given. But where a geometry is wanted, blank ones are made those of it first, and the header of version 1 gets the lines
-- that it needs in the version of a mount.
abbrev pub opened : Option Geometry → List Part → List Part
opened None parts = parts
opened (Some geometry) parts =
    if is_blank parts then sized mount_layout geometry parts
    else if is_of_version_1 parts then lengthened mount_layout parts else parts

-- each line can take 15 stores
pub record IsFresh (room : Room) : Type 0 where
  pub spare : (line : ℕ) → line < room.lines → 15 ≤ room.spare line

-- A part as a bench opens it: where it is quiet, or doesn't tell, each line can take 15 stores.
abbrev pub IsFreshWhereQuiet : PartHistory → Room → Type 0
IsFreshWhereQuiet [] room = IsFresh room
IsFreshWhereQuiet (now ∷ past) room = IsQuietPart now → IsFresh room
