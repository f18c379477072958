-- Regions in memory of version 1, whose header's part has the lines of version 2.
use Rattle.std.proofs.Common.{ℕ, ◌≤◌, ◌<◌, List, [], ◌∷◌, length, map, get_or, slice_index_or, arith}
use Rattle.nv_plain.specs.Layouts.{Layout}
use Rattle.nv_pmem.specs.Images.{IsQuietPart}
use Rattle.nv_pmem.specs.MemPart.{part_history, part_now, part_room}
use Rattle.nv_pmem.specs.Room.{Room}
use Rattle.nv_pmem.specs.Rows.{RowTells}
use Rattle.nv_pmem.specs.declared.mem_part.MemPart.{MemPart}
use Rattle.nv_pmem.proofs.PickedLaws.{quiet_spare}
use Rattle.nv_pmem.proofs.RowLaws.{row_tells_more}
use Rattle.nv_header.specs.Regions.{IsRoomy, IsAtRest}

-- parts in memory tell
always_told : (parts : List MemPart) (P : Type 0) → RowTells (map part_history parts) (λ now. P) → P
always_told [] P told = told
always_told (part ∷ parts) P told = always_told parts P told

-- the header's part of a region at rest has room in each of its lines
pub header_roomy : (lines : ℕ) (parts : List MemPart) (layout : Layout) (page entries : ℕ) (names : List (List ℕ)) (next : ℕ) (d : MemPart) (none : Room) → 0 < length parts → lines ≤ (part_room (get_or parts 0 d)).lines
    → RowTells (map part_history parts) (IsAtRest layout page entries names next) → IsRoomy lines (slice_index_or (map part_room parts) 0 none)
header_roomy lines [] layout page entries names next d none some enough told = absurd (omega arith)
header_roomy lines (part ∷ parts) layout page entries names next d none some enough told =
    let quiet = always_told parts (IsQuietPart (part_now part))
    (row_tells_more (map part_history parts) (λ others. IsAtRest layout page entries names next (part_now part ∷ others)) (λ others. IsQuietPart (part_now part))
    (λ others rest. rest.quiet.each 0) told) in
    record { there = enough; spare = λ line below. omega (arith, quiet_spare (part_now part) line quiet) }
