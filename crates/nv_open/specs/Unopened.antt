-- Unopened: what a bench holds, whatever a power failure leaves of it, whose region wasn't opened, or wasn't recovered.
use Rattle.std.specs.Prelude.{◌≡◌, ◌⊎◌, ℕ, ◌<◌, ◌≤◌, true, false, if◌then◌else◌, Contains, List, [], ◌++◌, length, map, take, Option, Some}
use Rattle.nv_plain.specs.Files.{Files}
use Rattle.nv_plain.specs.Images.{Image, header_of, layout_in, version_in}
use Rattle.nv_plain.specs.Layouts.{layout_of, mount_layout, mount_version}
use Rattle.nv_plain.specs.Recovered.{Fits, IsBlank}
use Rattle.nv_pmem.specs.Part.{Part}
use Rattle.nv_pmem.specs.RowStates.{AreNow}
use Rattle.nv_pmem.specs.Rows.{IsRowImage, RowTells, row_words}
use Rattle.nv_pmem.specs.Steps as lines
use Rattle.nv_plain.specs.declared.limits.Version.{Version}
use Rattle.nv_pmem.specs.declared.geometry.Geometry.{Geometry}
use Rattle.nv_store.specs.Steps.{StoreHistory}
use Rattle.nv_store.specs.Store.{Store}
use Rattle.nv_header.specs.Heads.{IsHead, first_names}
use Rattle.nv_header.specs.Regions.{HasEmptyLog, IsAtRest}
use Rattle.nv_bench.specs.Benches.{BenchState, told_back}
use Rattle.nv_bench.specs.Holding.{Holding, NamedStore, named_stores, store_of}
use Rattle.nv_bench.specs.Opening.{is_blank, opened}
use Rattle.nv_recover.specs.Standing.{AreQuietStores, AreStoreImages, StandsFor, StandsStill, files_of}
use Rattle.nv_open.specs.Adding.{all_names}
use Rattle.nv_open.specs.Begun.{IsOpeningBegun, files_with}
use Rattle.nv_open.specs.Held.{files_named, header_names, returned}
use Rattle.nv_open.specs.Lending.{stores_named, without_stores}
use Rattle.nv_open.specs.Refusals.{AreLong, CanBeRead, head_image}

-- a bench tells that it holds something that is so
pub record TellsOf (P : Holding → Type 0) (told : Option Holding) : Type 0 where
  pub now : Holding
  pub told_is : told ≡ Some now
  pub is_so : P now

-- ---- images of what a bench holds

-- the names that the header of an image says
abbrev pub names_in : Image → List (List ℕ)
names_in image = first_names (layout_in image) image (header_of image).files

-- an image of the parts of a bench, with the bytes of the stores that its header names, freely, is so
abbrev pub InEachImage : (Image → Files → Type 0) → Holding → Type 0
InEachImage P holding =
    (image : Image) (bytes : Files) → IsRowImage holding.parts image → AreStoreImages (stores_named (names_in image) holding.stores) bytes → P image bytes

-- the files of the first so many names
abbrev pub first_files : ℕ → Files → Files
first_files count files = record { contents = take count files.contents }

-- An image can be read, is of this version or of that of a mount, says these sizes, and has some first ones of these names, no fewer than so many. With the
-- bytes it stands for the files of these.
pub record HasSome (version : Version) (page entries least : ℕ) (names : List (List ℕ)) (files : Files) (image : Image) (bytes : Files) : Type 0 where
  pub count : ℕ
  pub enough : least ≤ count
  pub version_is : (version_in image ≡ version) ⊎ (version_in image ≡ mount_version)
  pub readable : IsHead (layout_in image) (layout_in image).header_lines image
  pub page_is : (header_of image).page ≡ page
  pub entries_is : (header_of image).entries ≡ entries
  pub names_are : names_in image ≡ take count names
  pub stands : StandsFor image bytes (first_files count files)

-- The header of parts can be read, and says good names.
abbrev pub HasHeader : List Part → Type 0
HasHeader parts = IsHead (layout_in (row_words parts)) (layout_in (row_words parts)).header_lines (row_words parts)

-- how many lines each part has
abbrev pub line_counts : List Part → List ℕ
line_counts parts = map (λ part. length part) parts

-- The parts of a row have as many lines as before, and are as many, where all of them tell.
abbrev pub HaveSameLines : (old new : List lines.PartHistory) → Type 0
HaveSameLines old new = RowTells old (λ was. RowTells new (λ now. line_counts now ≡ line_counts was))

-- What a bench holds beside the stores of these names: parts of so many lines each, and each store of another name as it was among these.
pub record HasRest (counts : List ℕ) (names : List (List ℕ)) (stores : List NamedStore) (now : Holding) : Type 0 where
  pub lines_are : line_counts now.parts ≡ counts
  pub others : (name : List ℕ) → ¬ (Contains names name) → store_of name now.stores ≡ store_of name stores

-- ---- a recovery that failed

-- Whatever a power failure leaves of what a bench holds has a header with the same names, and can take the place of what it held. Its parts have as many lines, and each store of another name is as it was.
pub record StandsAsBefore (was now : Holding) : Type 0 where
  pub same_names : (image : Image) → IsRowImage now.parts image → names_in image ≡ header_names was.parts
  pub stands : StandsStill (row_words was.parts) (files_of (stores_named (header_names was.parts) was.stores)) now.parts (stores_named (header_names was.parts) now.stores)
  pub rest : HasRest (line_counts was.parts) (header_names was.parts) was.stores now

-- ---- an opening that failed

-- the names of a region at its opening: those that its header says, and none of a blank one
abbrev pub names_known : List Part → List (List ℕ)
names_known parts = if is_blank parts then [] else header_names parts

-- its version: that which its header says, and that of a mount, where it is blank
abbrev pub version_known : List Part → Version
version_known parts = if is_blank parts then mount_version else version_in (head_image parts)

-- the sizes of a region at its opening: those that its header says, and those that are wanted of a blank one
abbrev pub page_known : List Part → Geometry → ℕ
page_known parts geometry = if is_blank parts then geometry.page else (header_of (head_image parts)).page

abbrev pub entries_known : List Part → Geometry → ℕ
entries_known parts geometry = if is_blank parts then geometry.entries else (header_of (head_image parts)).entries

-- Parts stand for files: they are blank, or a region that can be read, whose committed numbers lead whole groups.
pub record StandForFiles (parts : List Part) : Type 0 where
  pub readable : is_blank parts ≡ false → HasHeader parts
  pub fits : is_blank parts ≡ false → Fits (layout_in (row_words parts)) (row_words parts)

-- An image of what is left of a bench: it is blank, as the bench was; or it is of the version of the region or of a mount, has the sizes and all names of the
-- region, and maybe some of the new ones, and stands for their files.
abbrev pub StandsWithSome : (geometry : Geometry) (was : Holding) (wanted : List (List ℕ)) → Image → Files → Type 0
StandsWithSome geometry was wanted image bytes =
    let known = names_known was.parts in
    ((is_blank was.parts ≡ true) × IsBlank image)
    ⊎ HasSome (version_known was.parts) (page_known was.parts geometry) (entries_known was.parts geometry) (length known) (all_names known wanted) (files_with was.parts known wanted was.stores) image bytes

-- A bench holds what an opening leaves that failed: in each image it stands with some, and it has parts of so many lines each, and each store that is neither of the region nor of these names as it was.
pub record StandsOpening (counts : List ℕ) (geometry : Geometry) (was : Holding) (wanted : List (List ℕ)) (now : Holding) : Type 0 where
  pub images : InEachImage (StandsWithSome geometry was wanted) now
  pub rest : HasRest counts (all_names (names_known was.parts) wanted) was.stores now

-- what a bench holds whose region is opened for a geometry: as it held it, but that its parts are those that are given out
abbrev pub as_opened : Geometry → Holding → Holding
as_opened geometry holding = record { parts = opened (Some geometry) holding.parts; stores = holding.stores }

-- Its region was never given out, and it holds what it held; or its parts have the lines that they were given out with.
pub record StandsUnopened (was : Holding) (geometry : Geometry) (wanted : List (List ℕ)) (now : Holding) : Type 0 where
  pub either : (now ≡ was) ⊎ StandsOpening (line_counts (opened (Some geometry) was.parts)) geometry was wanted now

-- ---- a region that isn't good

-- The header of a region can be read, it has the lines that this says, and each committed number leads a whole group.
pub record IsGood (parts : List Part) : Type 0 where
  pub readable : CanBeRead parts
  pub long : AreLong parts
  pub fits : Fits (layout_in (row_words parts)) (row_words parts)

-- A bench holds what it held, but that the stores of some names of its header came back behind the others, as they were.
pub record IsUntouched (was now : Holding) : Type 0 where
  pub lent : List (List ℕ)
  pub of_header : (name : List ℕ) → Contains lent name → Contains (header_names was.parts) name
  pub now_is : now ≡ returned lent was

-- So it is where the region was to be opened for a geometry: it holds what it held, or what it held then with the parts that were given out.
pub record StaysUntouched (geometry : Geometry) (was now : Holding) : Type 0 where
  pub either : IsUntouched was now ⊎ IsUntouched (as_opened geometry was) now

-- ---- a region that would have too many files

-- A bench holds a region of this version with these names, at rest with an empty log; and behind these stores those of its names, which hold these files, durable.
pub record IsAtRestWith (version : Version) (page entries : ℕ) (names : List (List ℕ)) (next : ℕ) (files : Files) (others : List NamedStore) (now : Holding) : Type 0 where
  pub rest : IsAtRest (layout_of version) page entries names next now.parts
  pub held : List Store
  pub stores_are : now.stores ≡ others ++ named_stores names held
  pub files_are : files_of held ≡ files
  pub durable : AreQuietStores held

-- What a bench holds that was to open a region of too many files: the region as its opening began, that is formatted where it was blank, and else recovered, at rest
-- with the files that it stood for; and the stores of other names, as they were.
pub record RestsUnopened (was : Holding) (geometry : Geometry) (wanted : List (List ℕ)) (now : Holding) : Type 0 where
  pub page : ℕ
  pub entries : ℕ
  pub known : List (List ℕ)
  pub next : ℕ
  pub begun : IsOpeningBegun was.parts geometry page entries known next
  pub many : mount_layout.file_limit < length (all_names known wanted)
  pub rests : IsAtRestWith mount_version page entries known next (files_named was.parts known was.stores) (without_stores known was.stores) now

-- ---- what comes back

-- These devices tell, and whatever a power failure leaves of them can take the place of what these parts and stores were, with the same names in its header.
pub record StandAsBefore (parts : List Part) (stores : List Store) (part_row : List lines.PartHistory) (store_row : List StoreHistory) : Type 0 where
  pub now : List Part
  pub held : List Store
  pub now_are : AreNow part_row now
  pub held_are : AreNow store_row held
  pub same_names : (image : Image) → IsRowImage now image → names_in image ≡ header_names parts
  pub stands : StandsStill (row_words parts) (files_of stores) now held

-- parts tell, and what they hold is so
pub record TellRow (P : List Part → Type 0) (row : List lines.PartHistory) : Type 0 where
  pub now : List Part
  pub now_are : AreNow row now
  pub is_so : P now

-- The log is empty, and the header is of this version or of that of a mount, and has these names and the first so many of others.
pub record HasFirstNames (version : Version) (page entries : ℕ) (names more : List (List ℕ)) (next : ℕ) (image : Image) : Type 0 where
  pub now : Version
  pub now_is : (now ≡ version) ⊎ (now ≡ mount_version)
  pub count : ℕ
  pub empty : HasEmptyLog (layout_of now) page entries (names ++ take count more) next image

-- These parts and stores tell, and a bench to which they come back holds something that is so.
pub record GivesBack {X Y : Type 0} (part_history : X → lines.PartHistory) (store_history : Y → StoreHistory) (P : Holding → Type 0) (bench : BenchState) (parts : List X) (stores : List Y) : Type 0 where
  pub now : List Part
  pub held : List Store
  pub now_are : AreNow (map part_history parts) now
  pub held_are : AreNow (map store_history stores) held
  pub tells : TellsOf P (told_back now held bench)
