-- Regions: the parts of a region at rest, whose log is empty.
use Rattle.std.specs.Prelude.{◌≡◌, ◌≢◌, ℕ, ◌+◌, ◌%◌, ◌^◌, ◌<◌, ◌≤◌, ◌⊎◌, List, [], ◌∷◌, length, zero, suc, slice_index_or}
use Rattle.std.specs.Coded.{Coded-set, coded_ℕ, coded_list, Unit-prop}
use Rattle.std.proofs.Props.{props}
use Rattle.nv_plain.specs.Images.{Image, header_of, entry_of}
use Rattle.nv_plain.specs.Layouts.{Layout}
use Rattle.nv_plain.specs.Recovered.{IsBlank}
use Rattle.nv_pmem.specs.Images.{IsQuietLine-prop}
use Rattle.nv_pmem.specs.Limits.{entry_lines}
use Rattle.nv_pmem.specs.Part.{Part}
use Rattle.nv_pmem.specs.Room.{Room}
use Rattle.nv_pmem.specs.Rows.{RowTells, AreQuiet, InEachRowImage}
use Rattle.nv_pmem.specs.Steps.{PartHistory}
use Rattle.nv_header.specs.FileNames.{AreFileNames}
use Rattle.nv_header.specs.Heads.{IsHead, first_names}

-- ---- the parts and their room

-- the lines of part i: those of the header, or of an entry
abbrev pub part_lines : Layout → (page i : ℕ) → ℕ
part_lines layout page zero = layout.header_lines
part_lines layout page (suc i) = entry_lines page

-- so many lines are there, and each of them can take 15 stores
pub record IsRoomy (lines : ℕ) (room : Room) : Type 0 where
  pub there : lines ≤ room.lines
  pub spare : (line : ℕ) → line < lines → 15 ≤ room.spare line

-- a line that could take 15 stores still can, and there are as many lines
pub record StaysRoomy (old new : Room) : Type 0 where
  pub lines_are : new.lines ≡ old.lines
  pub spare : (line : ℕ) → 15 ≤ old.spare line → 15 ≤ new.spare line

-- The first parts are those of the header and of each entry, with the lines of the layout, and there is room in these. There may be
-- more parts: they belong to no slot, and are left as they are.
pub record HasParts (layout : Layout) (page entries : ℕ) (rooms : List Room) : Type 0 where
  pub count : 1 + entries ≤ length rooms
  pub each : (i : ℕ) (none : Room) → i ≤ entries → IsRoomy (part_lines layout page i) (slice_index_or rooms i none)

-- ---- what an image reads as

-- The header can be read, and it says this.
pub record ReadsAs (layout : Layout) (page entries : ℕ) (names : List (List ℕ)) (tail : ℕ) (image : Image) : Type 0 where
  pub readable : IsHead layout layout.header_lines image
  pub page_is : (header_of image).page ≡ page
  pub entries_is : (header_of image).entries ≡ entries
  pub names_are : first_names layout image (header_of image).files ≡ names
  pub tail_is : (header_of image).tail ≡ tail

-- No slot has the commit word of a number of its own from this one on.
pub record HasNoneFrom (entries next : ℕ) (image : Image) : Type 0 where
  pub uncommitted : (number : ℕ) → next ≤ number → (entry_of (image (1 + number % entries))).commit ≢ number + 1

-- The log is empty, now and for each later tail: the header says where it begins, and no number is committed from there on.
pub record HasEmptyLog (layout : Layout) (page entries : ℕ) (names : List (List ℕ)) (next : ℕ) (image : Image) : Type 0 where
  pub header : ReadsAs layout page entries names next image
  pub log : HasNoneFrom entries next image

-- blank, or formatted with no file, tail 0 and an empty log
abbrev pub IsBlankOrFormatted : Layout → (page entries : ℕ) → Image → Type 0
IsBlankOrFormatted layout page entries image = IsBlank image ⊎ HasEmptyLog layout page entries [] 0 image

-- ---- a region

-- what the present states of a blank region's parts are
pub record IsBlankRow (parts : List Part) : Type 0 where
  pub quiet : AreQuiet parts
  pub blank : InEachRowImage IsBlank parts

-- what they are of a region whose log is empty
pub record IsAtRest (layout : Layout) (page entries : ℕ) (names : List (List ℕ)) (next : ℕ) (parts : List Part) : Type 0 where
  pub quiet : AreQuiet parts
  pub empty : InEachRowImage (HasEmptyLog layout page entries names next) parts

-- The parts of a region with these names, whose log is empty and goes on with this number.
pub record IsRegion (layout : Layout) (page entries : ℕ) (names : List (List ℕ)) (next : ℕ) (rooms : List Room) (row : List PartHistory) : Type 0 where
  pub parts : HasParts layout page entries rooms
  pub names_are : AreFileNames layout names
  pub number : next ≤ 2 ^ 60
  pub tells : RowTells row (IsAtRest layout page entries names next)

-- ---- each of these facts has one proof at most

names_prop : (names others : List (List ℕ)) → IsProp (names ≡ others)
names_prop names others = Coded-set (coded_list (coded_list coded_ℕ)) names others

RowTells-prop : (row : List PartHistory) (P : List Part → Type 0) → ((parts : List Part) → IsProp (P parts)) → IsProp (RowTells row P)
RowTells-prop [] P each = each []
RowTells-prop ([] ∷ row) P each = Unit-prop
RowTells-prop ((now ∷ past) ∷ row) P each = RowTells-prop row (λ parts. P (now ∷ parts)) (λ parts. each (now ∷ parts))

pub IsRegion-prop : (layout : Layout) (page entries : ℕ) (names : List (List ℕ)) (next : ℕ) (rooms : List Room) (row : List PartHistory) → IsProp (IsRegion layout page entries names next rooms row)
IsRegion-prop layout page entries names next rooms row = hlevel (props, IsQuietLine-prop, names_prop, RowTells-prop)
