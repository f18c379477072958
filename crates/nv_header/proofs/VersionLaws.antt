-- What the layouts of all versions have in common.
use Rattle.std.proofs.Common.{◌≡◌, ℕ, ◌+◌, ◌-◌, ◌*◌, ◌/◌, ◌<◌, ◌≤◌, arith}
use Rattle.nv_plain.specs.Layouts.{Layout, layout_of}
use Rattle.nv_plain.specs.declared.limits.Version.{Version}
use Rattle.nv_plain.specs.declared.limits.Version.TheVariants.{One, Two}
use Rattle.nv_header.specs.Heads.{record_line}

-- the sizes of a record, and of the header
pub record HasSizes (layout : Layout) : Type 0 where
  pub some_lines : 1 ≤ layout.lines_per_name
  pub few_lines : layout.lines_per_name ≤ 4
  pub limit : layout.name_limit + 8 ≡ 64 * layout.lines_per_name
  pub words : layout.name_limit / 8 ≡ layout.lines_per_name * 8 - 1
  pub first : 2 ≤ layout.name_line
  pub names : layout.name_line ≤ layout.header_lines
  pub few_files : layout.file_limit ≤ 64
  pub header : layout.header_lines ≤ 274

pub sizes : (version : Version) → HasSizes (layout_of version)
sizes One = record {
  some_lines = omega arith;
  few_lines = omega arith;
  limit = omega arith;
  words = omega arith;
  first = omega arith;
  names = omega arith;
  few_files = omega arith;
  header = omega arith;
}
sizes Two = record {
  some_lines = omega arith;
  few_lines = omega arith;
  limit = omega arith;
  words = omega arith;
  first = omega arith;
  names = omega arith;
  few_files = omega arith;
  header = omega arith;
}

-- the record behind another one
pub record_line-next : (version : Version) (i : ℕ) → record_line (layout_of version) (i + 1) ≡ record_line (layout_of version) i + (layout_of version).lines_per_name
record_line-next One i = omega arith
record_line-next Two i = omega arith

-- those before a record stand before it
pub record_line-before : (version : Version) (i j : ℕ) → i < j → record_line (layout_of version) i + (layout_of version).lines_per_name ≤ record_line (layout_of version) j
record_line-before One i j before = omega arith
record_line-before Two i j before = omega arith

-- and all of them in the header
pub record_line-inside : (version : Version) (i : ℕ) → i < (layout_of version).file_limit → record_line (layout_of version) i + (layout_of version).lines_per_name ≤ (layout_of version).header_lines
record_line-inside One i below = omega arith
record_line-inside Two i below = omega arith

-- behind the fields
pub record_line-behind : (version : Version) (i : ℕ) → 2 ≤ record_line (layout_of version) i
record_line-behind One i = omega arith
record_line-behind Two i = omega arith
