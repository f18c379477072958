-- Images: what the header and the entries of a region say, as their words read.
use Rattle.std.specs.Prelude.{ℕ, ◌+◌, ◌-◌, ◌*◌, ◌/◌, ◌%◌, ◌==◌, if◌then◌else◌, List, [], ◌∷◌, take}
use Rattle.std.specs.Int.{to_le_bytes, w64}
use Rattle.std.specs.List.{flat_map, range_with_len}
use Rattle.nv_plain.specs.Layouts.{Layout, layout_of}
use Rattle.nv_plain.specs.declared.limits.Version.{Version}
use Rattle.nv_plain.specs.declared.limits.Version.TheVariants.{One, Two}

-- the words of one part, by line and word
abbrev pub PartImage : Type 0
PartImage = ℕ → ℕ → ℕ

-- the words of a region, by part, line and word
abbrev pub Image : Type 0
Image = ℕ → PartImage

-- the bytes of a line: its eight words, little-endian
abbrev pub line_bytes : (ℕ → ℕ) → List ℕ
line_bytes words = flat_map (λ word. to_le_bytes w64 (words word)) (0 ∷ 1 ∷ 2 ∷ 3 ∷ 4 ∷ 5 ∷ 6 ∷ 7 ∷ [])

-- the bytes of so many lines of a part, from one on
abbrev pub lines_bytes : PartImage → ℕ → ℕ → List ℕ
lines_bytes part from count = flat_map (λ line. line_bytes (part line)) (range_with_len from count)

-- the fields of a log entry, in words 0 to 5 of its part's line 0
pub record Entry : Type 0 where
  pub commit : ℕ
  pub file : ℕ
  pub at : ℕ
  pub size : ℕ
  pub count : ℕ
  pub leader : ℕ

-- the entry that a part reads as
abbrev pub entry_of : PartImage → Entry
entry_of part = record {
  commit = part 0 0;
  file = part 0 1;
  at = part 0 2;
  size = part 0 3;
  count = part 0 4;
  leader = part 0 5;
}

-- so many bytes need so many lines
abbrev pub lines_for : ℕ → ℕ
lines_for size = (size + 63) / 64

-- the first bytes of an entry's data, which stands in its lines from 1 on
abbrev pub data_of : PartImage → ℕ → List ℕ
data_of part size = take size (lines_bytes part 1 (lines_for size))

-- the fields of a region's header, in lines 0 and 1 of part 0
pub record Header : Type 0 where
  pub magic : ℕ
  pub version : ℕ
  pub page : ℕ
  pub entries : ℕ
  pub files : ℕ
  pub tail : ℕ

-- the eight bytes `NVCACHE1` as a word
abbrev pub header_magic : ℕ
header_magic = 0x314548434143564e

-- the header that a region reads as
abbrev pub header_of : Image → Header
header_of image = record {
  magic = image 0 0 0;
  version = image 0 0 1;
  page = image 0 0 2;
  entries = image 0 0 3;
  files = image 0 0 4;
  tail = image 0 1 0;
}

-- the version that the header of an image says; version 1, where it is no version that is known
abbrev pub version_in : Image → Version
version_in image = if (header_of image).version == (layout_of Two).version then Two else One

-- the layout of that version: where the image keeps what
unfoldable pub layout_in : Image → Layout
layout_in image = layout_of (version_in image)

-- the name in record i: its length is the record's first word, and its bytes stand behind that
abbrev pub name_of : Layout → Image → ℕ → List ℕ
name_of layout image i =
    let first = layout.name_line + i * layout.lines_per_name in
    take (image 0 first 0) (flat_map
    (λ k. to_le_bytes w64 (image 0 (first + k / 8) (k % 8)))
    (range_with_len 1 (layout.lines_per_name * 8 - 1)))

-- the part of the slot in which an entry number stands
abbrev pub slot_part : Image → ℕ → PartImage
slot_part image number = image (1 + number % (header_of image).entries)

-- the entry of a number
abbrev pub entry_at : Image → ℕ → Entry
entry_at image number = entry_of (slot_part image number)
