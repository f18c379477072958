-- Refusals: why a header can't be read. Each names the first test that fails, and its tests before that one hold.
use Rattle.std.specs.Prelude.{◌≡◌, ◌≢◌, ℕ, ◌^◌, ◌<◌, ◌≤◌, Result, Ok, Err}
use Rattle.nv_plain.specs.Faults.{Rose}
use Rattle.nv_plain.specs.Images.{Image, Header, header_magic, header_of}
use Rattle.nv_plain.specs.Layouts.{Layout}
use Rattle.nv_pmem.specs.Limits.{IsPageSize, IsEntryCount}
use Rattle.nv_pmem.specs.declared.geometry.GeometryField.{GeometryField}
use Rattle.nv_pmem.specs.declared.geometry.GeometryField.TheVariants as geometry
use Rattle.nv_header.specs.declared.head.HeadError.{HeadError}
use Rattle.nv_header.specs.declared.head.HeadError.TheVariants.{Truncated, BadMagic, BadVersion, BadGeometry, BadName, RegionFault, NoMemory}
use Rattle.nv_header.specs.declared.head.HeadField.{HeadField}
use Rattle.nv_header.specs.declared.head.HeadField.TheVariants.{Page, Entries, Files, Tail}
use Rattle.nv_header.specs.Heads.{IsGoodName, HasFields, IsHead}

-- a geometry's field, as a header's
abbrev pub head_field : GeometryField → HeadField
head_field geometry.Page = Page
head_field geometry.Entries = Entries

-- the magic and the version are as they have to be
pub record IsOurs (layout : Layout) (header : Header) : Type 0 where
  pub magic : header.magic ≡ header_magic
  pub version_is : header.version ≡ layout.version

-- a field is out of its limits, and those before it are not
abbrev pub IsOutOfLimits : Layout → Header → HeadField → ℕ → Type 0
IsOutOfLimits layout header Page found = ¬ (IsPageSize header.page) × (found ≡ header.page)
IsOutOfLimits layout header Entries found = IsPageSize header.page × ¬ (IsEntryCount header.entries) × (found ≡ header.entries)
IsOutOfLimits layout header Files found =
    IsPageSize header.page × IsEntryCount header.entries × (layout.file_limit < header.files) × (found ≡ header.files)
IsOutOfLimits layout header Tail found =
    IsPageSize header.page × IsEntryCount header.entries × (header.files ≤ layout.file_limit) × (2 ^ 60 < header.tail)
    × (found ≡ header.tail)

-- the refusals by the fields, in the order of their tests: the magic, the version, the limits
abbrev pub IsBadField : Layout → Header → HeadError → Type 0
IsBadField layout header BadMagic = header.magic ≢ header_magic
IsBadField layout header (BadVersion found) =
    (header.magic ≡ header_magic) × (header.version ≢ layout.version) × (found ≡ header.version)
IsBadField layout header (BadGeometry field found) =
    IsOurs layout header × IsOutOfLimits layout header field found
IsBadField layout header (Truncated found wanted) = ⊥
IsBadField layout header (BadName i) = ⊥
IsBadField layout header RegionFault = ⊥
IsBadField layout header NoMemory = ⊥

-- the first name that isn't good
pub record IsBadName (layout : Layout) (image : Image) (i : ℕ) : Type 0 where
  pub inside : i < (header_of image).files
  pub before : (j : ℕ) → j < i → IsGoodName layout image j
  pub bad : ¬ (IsGoodName layout image i)

-- Why the header of an image, in a part of so many lines, isn't read: the lines, then the fields, then the names. A fault and
-- want of memory say nothing of the image.
abbrev pub IsRefused : Layout → (lines : ℕ) → Image → HeadError → Type 0
IsRefused layout lines image (Truncated found wanted) =
    (lines < layout.header_lines) × (found ≡ lines) × (wanted ≡ layout.header_lines)
IsRefused layout lines image BadMagic =
    (layout.header_lines ≤ lines) × IsBadField layout (header_of image) BadMagic
IsRefused layout lines image (BadVersion found) =
    (layout.header_lines ≤ lines) × IsBadField layout (header_of image) (BadVersion found)
IsRefused layout lines image (BadGeometry field found) =
    (layout.header_lines ≤ lines) × IsBadField layout (header_of image) (BadGeometry field found)
IsRefused layout lines image (BadName i) =
    (layout.header_lines ≤ lines) × HasFields layout (header_of image) × IsBadName layout image i
IsRefused layout lines image RegionFault = Unit {0}
IsRefused layout lines image NoMemory = Unit {0}

-- A fault is answered only where the count of faults rose, and any other answer leaves it.
abbrev pub HeadHasCause : {T : Type 0} → ℕ → ℕ → Result T HeadError → Type 0
HeadHasCause before now (Ok _) = now ≡ before
HeadHasCause before now (Err (Truncated found wanted)) = now ≡ before
HeadHasCause before now (Err BadMagic) = now ≡ before
HeadHasCause before now (Err (BadVersion found)) = now ≡ before
HeadHasCause before now (Err (BadGeometry field found)) = now ≡ before
HeadHasCause before now (Err (BadName i)) = now ≡ before
HeadHasCause before now (Err RegionFault) = Rose before now
HeadHasCause before now (Err NoMemory) = now ≡ before

-- the refusal says something of the image, and isn't a fault or want of memory
abbrev pub SpeaksOfImage : HeadError → Type 0
SpeaksOfImage (Truncated found wanted) = Unit {0}
SpeaksOfImage BadMagic = Unit {0}
SpeaksOfImage (BadVersion found) = Unit {0}
SpeaksOfImage (BadGeometry field found) = Unit {0}
SpeaksOfImage (BadName i) = Unit {0}
SpeaksOfImage RegionFault = ⊥
SpeaksOfImage NoMemory = ⊥

-- the refusal isn't for want of lines
abbrev pub IsNotTruncated : HeadError → Type 0
IsNotTruncated (Truncated found wanted) = ⊥
IsNotTruncated BadMagic = Unit {0}
IsNotTruncated (BadVersion found) = Unit {0}
IsNotTruncated (BadGeometry field found) = Unit {0}
IsNotTruncated (BadName i) = Unit {0}
IsNotTruncated RegionFault = Unit {0}
IsNotTruncated NoMemory = Unit {0}

-- A header that can be read has no such refusal.
abbrev pub ReadIsNotRefused : Type 0
ReadIsNotRefused =
    (layout : Layout) (lines : ℕ) (image : Image) (refusal : HeadError)
    → IsHead layout lines image → SpeaksOfImage refusal → ¬ (IsRefused layout lines image refusal)

-- And no header has two of them: the first test that fails is one.
abbrev pub IsRefusedOnce : Type 0
IsRefusedOnce =
    (layout : Layout) (lines : ℕ) (image : Image) (one other : HeadError)
    → SpeaksOfImage one → SpeaksOfImage other
    → IsRefused layout lines image one → IsRefused layout lines image other → one ≡ other
