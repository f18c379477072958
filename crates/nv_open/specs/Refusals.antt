-- Refusals: why a region isn't opened, by the bytes of its parts.
use Rattle.std.specs.Prelude.{◌≡◌, ◌⊎◌, ℕ, List, [], map, length, slice_index_or}
use Rattle.nv_plain.specs.Images.{Image, header_of, layout_in}
use Rattle.nv_plain.specs.Layouts.{Layout}
use Rattle.nv_pmem.specs.Part.{Part}
use Rattle.nv_pmem.specs.Room.{Room}
use Rattle.nv_pmem.specs.Rows.{row_words}
use Rattle.nv_bench.specs.declared.bench.BenchError.{BenchError}
use Rattle.nv_bench.specs.declared.bench.BenchError.TheVariants as bench
use Rattle.nv_header.specs.Heads.{IsHead, header_image}
use Rattle.nv_header.specs.Needs.{HasLines, lines_found, lines_wanted}
use Rattle.nv_header.specs.Unread.{IsUnread}
use Rattle.nv_header.specs.declared.head.HeadError.{HeadError}
use Rattle.nv_header.specs.declared.head.HeadError.TheVariants as head
use Rattle.nv_recover.specs.Groups.{IsLeastBad}
use Rattle.nv_recover.specs.declared.error.RecoverError.{RecoverError}
use Rattle.nv_recover.specs.declared.error.RecoverError.TheVariants as recovery
use Rattle.nv_open.specs.declared.error.OpenError.{OpenError}
use Rattle.nv_open.specs.declared.error.OpenError.TheVariants as error
use Rattle.nv_open.specs.declared.error.Refusal.{Refusal}
use Rattle.nv_open.specs.declared.error.Refusal.TheVariants.{Truncated, BadMagic, BadVersion, BadGeometry, BadName, BadEntry, TooManyFiles}

-- ---- the errors of what an opening calls

-- an opening of a device
abbrev pub of_bench : BenchError → OpenError
of_bench bench.Failed = error.Fault
of_bench bench.NoMemory = error.NoMemory

-- the reading of the header
abbrev pub of_head : HeadError → OpenError
of_head (head.Truncated found wanted) = error.Refused (Truncated found wanted)
of_head head.BadMagic = error.Refused BadMagic
of_head (head.BadVersion found) = error.Refused (BadVersion found)
of_head (head.BadGeometry field found) = error.Refused (BadGeometry field found)
of_head (head.BadName i) = error.Refused (BadName i)
of_head head.RegionFault = error.Fault
of_head head.NoMemory = error.NoMemory

-- the recovery
abbrev pub of_recovery : RecoverError → OpenError
of_recovery (recovery.BadEntry number) = error.Refused (BadEntry number)
of_recovery recovery.RegionFault = error.Fault
of_recovery recovery.StoreFault = error.Fault
of_recovery recovery.NoMemory = error.NoMemory

-- ---- what the parts of a region say

-- the header's part; one of no line, where there is no part
abbrev pub header_part : List Part → Part
header_part parts = slice_index_or parts 0 []

-- the image that the header is read of
abbrev pub head_image : List Part → Image
head_image parts = header_image (header_part parts)

-- where the region keeps what: the layout of the version that the header says
abbrev pub head_layout : List Part → Layout
head_layout parts = layout_in (head_image parts)

-- The header can be read.
abbrev pub CanBeRead : List Part → Type 0
CanBeRead parts = IsHead (head_layout parts) (length (header_part parts)) (head_image parts)

-- the room of some parts, as far as it is their lines
abbrev pub rooms_of : List Part → List Room
rooms_of parts = map (λ part. record { lines = length part; spare = λ line. 0; after_fence = λ line. 0 }) parts

-- The parts have the lines that their header says.
abbrev pub AreLong : List Part → Type 0
AreLong parts = HasLines (head_layout parts) (header_of (head_image parts)).page (header_of (head_image parts)).entries (rooms_of parts)

-- The header can be read, but lines that it says are wanting.
pub record LackLines (parts : List Part) (found wanted : ℕ) : Type 0 where
  pub readable : CanBeRead parts
  pub short : ¬ AreLong parts
  pub found_is : found ≡ lines_found (head_layout parts) (header_of (head_image parts)).page (header_of (head_image parts)).entries (rooms_of parts)
  pub wanted_is : wanted ≡ lines_wanted (head_layout parts) (header_of (head_image parts)).page (header_of (head_image parts)).entries

-- a refusal of the header by itself, whatever version it is of
abbrev pub IsHeadRefused : List Part → HeadError → Type 0
IsHeadRefused parts refusal = IsUnread (length (header_part parts)) (head_image parts) refusal

-- Why a region of these parts is refused: its header can't be read, or says lines that are wanting, or else an entry of the log is
-- bad.
abbrev pub IsRefusedFor : List Part → Refusal → Type 0
IsRefusedFor parts (Truncated found wanted) = IsHeadRefused parts (head.Truncated found wanted) ⊎ LackLines parts found wanted
IsRefusedFor parts BadMagic = IsHeadRefused parts head.BadMagic
IsRefusedFor parts (BadVersion found) = IsHeadRefused parts (head.BadVersion found)
IsRefusedFor parts (BadGeometry field found) = IsHeadRefused parts (head.BadGeometry field found)
IsRefusedFor parts (BadName i) = IsHeadRefused parts (head.BadName i)
IsRefusedFor parts (BadEntry number) = CanBeRead parts × AreLong parts × IsLeastBad (layout_in (row_words parts)) (row_words parts) number
IsRefusedFor parts TooManyFiles = ⊥

-- the refusal is that of an entry
abbrev pub IsBadLog : Refusal → Type 0
IsBadLog (Truncated found wanted) = ⊥
IsBadLog BadMagic = ⊥
IsBadLog (BadVersion found) = ⊥
IsBadLog (BadGeometry field found) = ⊥
IsBadLog (BadName i) = ⊥
IsBadLog (BadEntry number) = Unit {0}
IsBadLog TooManyFiles = ⊥

-- the refusal is that of a header, or of the lines that it says
abbrev pub IsBadHeader : Refusal → Type 0
IsBadHeader (Truncated found wanted) = Unit {0}
IsBadHeader BadMagic = Unit {0}
IsBadHeader (BadVersion found) = Unit {0}
IsBadHeader (BadGeometry field found) = Unit {0}
IsBadHeader (BadName i) = Unit {0}
IsBadHeader (BadEntry number) = ⊥
IsBadHeader TooManyFiles = ⊥
