-- Layouts: where a region keeps what, by its version.
use Rattle.std.specs.Prelude.{ℕ, ◌==◌, if◌then◌else◌, Option, Some, None}
use Rattle.nv_plain.specs.declared.limits.Version.{Version}
use Rattle.nv_plain.specs.declared.limits.Version.TheVariants.{One, Two}

-- the places and limits of one version of the region
pub record Layout : Type 0 where
  -- the version, as a header has it
  pub version : ℕ
  -- lines of the header's part
  pub header_lines : ℕ
  -- line of the first name's record, and lines of each record
  pub name_line : ℕ
  pub lines_per_name : ℕ
  -- most bytes of a name, names, entries of a group, pages of a file
  pub name_limit : ℕ
  pub file_limit : ℕ
  pub group_limit : ℕ
  pub page_limit : ℕ

-- version 1
abbrev pub version_1 : Layout
version_1 = record {
  version = 1;
  header_lines = 18;
  name_line = 2;
  lines_per_name = 1;
  name_limit = 56;
  file_limit = 16;
  group_limit = 16;
  page_limit = 1024;
}

-- version 2
abbrev pub version_2 : Layout
version_2 = record {
  version = 2;
  header_lines = 274;
  name_line = 18;
  lines_per_name = 4;
  name_limit = 248;
  file_limit = 64;
  group_limit = 64;
  page_limit = 1024;
}

-- the layout of each version
abbrev pub layout_of : Version → Layout
layout_of One = version_1
layout_of Two = version_2

-- the version of a number; none, where it isn't known
abbrev pub version_numbered : ℕ → Option Version
version_numbered number = if number == 1 then Some One else if number == 2 then Some Two else None

-- the version of each region that a mount opens over, whatever version it came with, and its layout
abbrev pub mount_version : Version
mount_version = Two

abbrev pub mount_layout : Layout
mount_layout = layout_of mount_version
