-- Unread: why a header isn't read, whatever version it is of. The first test that fails is named, and those before it hold.
use Rattle.std.specs.Prelude.{◌≡◌, ◌≢◌, ◌⊎◌, ℕ, ◌<◌, ◌≤◌, None}
use Rattle.nv_plain.specs.Images.{Image, Header, header_magic, header_of}
use Rattle.nv_plain.specs.Layouts.{layout_of, version_1, version_2, version_numbered}
use Rattle.nv_plain.specs.declared.limits.Version.{Version}
use Rattle.nv_header.specs.declared.head.HeadError.{HeadError}
use Rattle.nv_header.specs.declared.head.HeadError.TheVariants.{Truncated, BadMagic, BadVersion, BadGeometry, BadName, RegionFault, NoMemory}
use Rattle.nv_header.specs.Heads.{IsHead}
use Rattle.nv_header.specs.Refusals.{IsOurs, IsRefused, SpeaksOfImage}

-- The header has another magic, or a version that isn't known.
abbrev pub IsOfNoVersion : Header → HeadError → Type 0
IsOfNoVersion header BadMagic = header.magic ≢ header_magic
IsOfNoVersion header (BadVersion found) =
    (header.magic ≡ header_magic) × (version_numbered header.version ≡ None) × (found ≡ header.version)
IsOfNoVersion header (Truncated found wanted) = ⊥
IsOfNoVersion header (BadGeometry field found) = ⊥
IsOfNoVersion header (BadName i) = ⊥
IsOfNoVersion header RegionFault = ⊥
IsOfNoVersion header NoMemory = ⊥

-- The header is of one of the versions, and is refused as one of it.
pub record IsRefusedAsOurs (lines : ℕ) (image : Image) (refusal : HeadError) : Type 0 where
  pub version : Version
  pub ours : IsOurs (layout_of version) (header_of image)
  pub refused : IsRefused (layout_of version) lines image refusal

-- Why the header of an image, in a part of so many lines, isn't read. It lacks lines of the shorter header; or it is of no version
-- that is known; or it is refused as one of its version. A fault and want of memory say nothing of the image.
abbrev pub IsUnread : (lines : ℕ) → Image → HeadError → Type 0
IsUnread lines image (Truncated found wanted) =
    IsRefused version_1 lines image (Truncated found wanted)
    ⊎ ((version_1.header_lines ≤ lines) × IsRefusedAsOurs lines image (Truncated found wanted))
IsUnread lines image BadMagic = (version_1.header_lines ≤ lines) × IsOfNoVersion (header_of image) BadMagic
IsUnread lines image (BadVersion found) = (version_1.header_lines ≤ lines) × IsOfNoVersion (header_of image) (BadVersion found)
IsUnread lines image (BadGeometry field found) = IsRefusedAsOurs lines image (BadGeometry field found)
IsUnread lines image (BadName i) = IsRefusedAsOurs lines image (BadName i)
IsUnread lines image RegionFault = Unit {0}
IsUnread lines image NoMemory = Unit {0}

-- A refusal for want of lines counts them, and says how many the header of one of the versions has, which are more.
abbrev pub LacksLines : (lines : ℕ) → HeadError → Type 0
LacksLines lines (Truncated found wanted) =
    (found ≡ lines) × (lines < wanted) × ((wanted ≡ version_1.header_lines) ⊎ (wanted ≡ version_2.header_lines))
LacksLines lines BadMagic = Unit {0}
LacksLines lines (BadVersion found) = Unit {0}
LacksLines lines (BadGeometry field found) = Unit {0}
LacksLines lines (BadName i) = Unit {0}
LacksLines lines RegionFault = Unit {0}
LacksLines lines NoMemory = Unit {0}

-- A header of whatever version that can be read isn't refused,
abbrev pub HeadIsNotUnread : Type 0
HeadIsNotUnread =
    (version : Version) (lines : ℕ) (image : Image) (refusal : HeadError)
    → IsHead (layout_of version) lines image → SpeaksOfImage refusal → ¬ (IsUnread lines image refusal)

-- and no header is refused for two reasons.
abbrev pub IsUnreadOnce : Type 0
IsUnreadOnce =
    (lines : ℕ) (image : Image) (one other : HeadError)
    → SpeaksOfImage one → SpeaksOfImage other → IsUnread lines image one → IsUnread lines image other → one ≡ other
