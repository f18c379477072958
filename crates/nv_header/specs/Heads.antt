-- Heads: what the header of a region says, and when it can be read.
use Rattle.std.specs.Prelude.{◌≡◌, ◌≢◌, ℕ, ◌+◌, ◌-◌, ◌*◌, ◌/◌, ◌%◌, ◌^◌, ◌<◌, ◌≤◌, ◌==◌, ◌&&◌, nat_le, Bool, IsTrue, List, take, drop, map}
use Rattle.std.specs.Int.{to_le_bytes, w64}
use Rattle.std.specs.List.{flat_map, list_all, range_with_len}
use Rattle.nv_plain.specs.Images.{Image, Header, header_magic, header_of, name_of}
use Rattle.nv_plain.specs.Layouts.{Layout}
use Rattle.nv_plain.specs.Names.{is_name}
use Rattle.nv_pmem.specs.Limits.{IsPageSize, IsEntryCount}
use Rattle.nv_pmem.specs.Part.{Part, part_word}
use Rattle.nv_header.specs.FileNames.{AreFileNames}
use Rattle.nv_header.specs.declared.head.Head.{Head}

-- An image whose part 0 reads as this part does. The header and the names stand in part 0, and no other part is looked at.
abbrev pub header_image : Part → Image
header_image now part = part_word now

-- the first line of name i's record
abbrev pub record_line : Layout → ℕ → ℕ
record_line layout i = layout.name_line + i * layout.lines_per_name

-- how long name i is, as its record says
abbrev pub length_of : Layout → Image → ℕ → ℕ
length_of layout image i = image 0 (record_line layout i) 0

-- the bytes of name i's record behind its length: the name, and its padding
abbrev pub room_of_name : Layout → Image → ℕ → List ℕ
room_of_name layout image i =
    flat_map (λ k. to_le_bytes w64 (image 0 (record_line layout i + k / 8) (k % 8)))
    (range_with_len 1 (layout.lines_per_name * 8 - 1))

-- a record holds a name: it isn't too long, its bytes are allowed, and zeros pad it
abbrev pub is_record : (most length : ℕ) → List ℕ → Bool
is_record most length room =
    nat_le length most && is_name most (take length room) && list_all (λ byte. byte == 0) (drop length room)

-- Name i is good: its record holds a name, which no earlier record has.
pub record IsGoodName (layout : Layout) (image : Image) (i : ℕ) : Type 0 where
  pub whole : IsTrue (is_record layout.name_limit (length_of layout image i) (room_of_name layout image i))
  pub new : (j : ℕ) → j < i → name_of layout image j ≢ name_of layout image i

-- the first so many names
unfoldable pub first_names : Layout → Image → ℕ → List (List ℕ)
first_names layout image count = map (name_of layout image) (range_with_len 0 count)

-- The fields of a header are those of its layout's version, and within their limits.
pub record HasFields (layout : Layout) (header : Header) : Type 0 where
  pub magic : header.magic ≡ header_magic
  pub version_is : header.version ≡ layout.version
  pub page : IsPageSize header.page
  pub entries : IsEntryCount header.entries
  pub files : header.files ≤ layout.file_limit
  pub tail : header.tail ≤ 2 ^ 60

-- The header of an image, in a part of so many lines, can be read.
pub record IsHead (layout : Layout) (lines : ℕ) (image : Image) : Type 0 where
  pub long_enough : layout.header_lines ≤ lines
  pub fields : HasFields layout (header_of image)
  pub names : (i : ℕ) → i < (header_of image).files → IsGoodName layout image i

-- a head says what a header says that can be read
pub record IsHeadOf (layout : Layout) (lines : ℕ) (image : Image) (head : Head) : Type 0 where
  pub readable : IsHead layout lines image
  pub page : head.geometry.page ≡ (header_of image).page
  pub entries : head.geometry.entries ≡ (header_of image).entries
  pub names : head.names ≡ first_names layout image (header_of image).files
  pub tail : head.tail ≡ (header_of image).tail

-- A head is within the limits of its layout: whoever uses its names finds each of them allowed, and no two the same.
pub record HeadIsWithinLimits (layout : Layout) (head : Head) : Type 0 where
  pub names : AreFileNames layout head.names
  pub tail : head.tail ≤ 2 ^ 60
