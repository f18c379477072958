-- Regions at rest: a mount over the parts of one opens its log and its region.
use Rattle.std.specs.Prelude.{◌≡◌, ℕ, ◌+◌, ◌<◌, ◌≤◌, List, [], length, slice_index_or}
use Rattle.nv_plain.specs.Layouts.{mount_layout}
use Rattle.nv_pmem.specs.Limits.{entry_lines}
use Rattle.nv_pmem.specs.Part.{Part}
use Rattle.nv_header.specs.Regions.{IsAtRest}
use Rattle.nv_core.specs.state.Words.{Sizes, HEADER, ENTRY}
use Rattle.nv_core.specs.steps.Order.{Values}
use Rattle.nv_core.specs.steps.Opening.{Mount}
use Rattle.nv_core.specs.log.Written.{IsPart}
use Rattle.nv_core.specs.log.LogContent.{OpensLog}
use Rattle.nv_core.specs.crash.CrashImages.{StoresQuiet, OpensRegion}

-- The cells keep these parts: HEADER the first one, which has a line 1, and each entry the part of its slot, which is long enough for an entry.
pub record KeepRow (sizes : Sizes) (values : Values) (parts : List Part) : Type 0 where
  pub header : IsPart (values HEADER) (slice_index_or parts 0 [])
  pub header_lines : 1 < length (slice_index_or parts 0 [])
  pub entries : (slot : ℕ) → slot < sizes.entries → IsPart (values (ENTRY slot)) (slice_index_or parts (1 + slot) [])
  pub lines : (slot : ℕ) → slot < sizes.entries → entry_lines sizes.page ≤ length (slice_index_or parts (1 + slot) [])

-- A mount over a region at rest, whose next number is the region's and whose stores are durable, opens both.
abbrev pub RegionsAtRestOpen : Type 0
RegionsAtRestOpen =
    (mount : Mount) (names : List (List ℕ)) (parts : List Part)
    → IsAtRest mount_layout mount.sizes.page mount.sizes.entries names mount.next parts → KeepRow mount.sizes mount.values parts
    → length names ≡ mount.sizes.files → mount.sizes.pages ≤ mount_layout.page_limit → StoresQuiet mount.values
    → OpensLog mount mount.next × OpensRegion mount names
