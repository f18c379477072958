-- Standing: which files the parts of a region and its stores stand for, whatever a power failure leaves of them.
use Rattle.std.specs.Prelude.{◌≡◌, ◌⊎◌, ℕ, ◌<◌, List, length, map, slice_index_or, All}
use Rattle.nv_plain.specs.Files.{Files, contents_of}
use Rattle.nv_plain.specs.Images.{Image, header_of, layout_in}
use Rattle.nv_plain.specs.Layouts.{Layout}
use Rattle.nv_plain.specs.Recovered.{Fits, recovered, region_files}
use Rattle.nv_pmem.specs.Part.{Part}
use Rattle.nv_pmem.specs.Rows.{IsRowImage}
use Rattle.nv_header.specs.Heads.{IsHead, first_names}
use Rattle.nv_header.specs.Regions.{HasEmptyLog}
use Rattle.nv_store.specs.Images.{IsStoreImage}
use Rattle.nv_store.specs.Store.{Store, IsQuietStore}

-- the bytes that reads of the stores give
abbrev pub files_of : List Store → Files
files_of stores = record { contents = map (λ store. store.seen) stores }

-- An image of the stores: one of each, freely.
pub record AreStoreImages (stores : List Store) (bytes : Files) : Type 0 where
  pub count : length bytes.contents ≡ length stores
  pub each : (i : ℕ) (none : Store) → i < length stores → IsStoreImage (slice_index_or stores i none) (contents_of bytes i)

-- A power failure leaves nothing of the stores now that it might not have left of them before.
abbrev pub LeaveNoMore : List Store → List Store → Type 0
LeaveNoMore was now = (bytes : Files) → AreStoreImages now bytes → AreStoreImages was bytes

-- each store is quiet
abbrev pub AreQuietStores : List Store → Type 0
AreQuietStores stores = All IsQuietStore stores

-- An image whose header can be read stands for the files that it recovers to.
abbrev pub ReadableStandsForRecovered : Type 0
ReadableStandsForRecovered =
    (layout : Layout) (lines : ℕ) (image : Image) (bytes : Files)
    → IsHead layout lines image → region_files image bytes ≡ (recovered image bytes).files

-- A region's image and its stores' bytes stand for some files: the image fits, by its own version, and recovers to them.
pub record StandsFor (image : Image) (bytes files : Files) : Type 0 where
  pub fits : Fits (layout_in image) image
  pub recovers : (recovered image bytes).files ≡ files

-- The header of the other image can be read, and says what that of the image says, its version too, but for the tail.
pub record ReadsAlike (image other : Image) : Type 0 where
  pub version : (header_of other).version ≡ (header_of image).version
  pub readable : IsHead (layout_in other) (layout_in other).header_lines other
  pub page : (header_of other).page ≡ (header_of image).page
  pub entries : (header_of other).entries ≡ (header_of image).entries
  pub names : first_names (layout_in other) other (header_of other).files ≡ first_names (layout_in image) image (header_of image).files

-- The log of the other image says what that of the image does, whatever the stores hold: its first number, its groups and its
-- next number.
pub record HasSameLog (image other : Image) : Type 0 where
  pub first : (stores : Files) → (recovered other stores).first ≡ (recovered image stores).first
  pub groups : (stores : Files) → (recovered other stores).groups ≡ (recovered image stores).groups
  pub next : (stores : Files) → (recovered other stores).next ≡ (recovered image stores).next

-- The log of the other image is empty, now and for each later tail, and goes on with the next number of the image.
abbrev pub HasEmptiedLog : Image → Image → Type 0
HasEmptiedLog image other =
    (stores : Files)
    → HasEmptyLog (layout_in image) (header_of image).page (header_of image).entries (first_names (layout_in image) image (header_of image).files)
    (recovered image stores).next other

-- Another image and other bytes can take the place of these: the header reads alike, so that they can be recovered; the log
-- says the same, or it is empty and goes on with the next number; and where the image fits, they stand for the same files.
pub record TakesPlace (image : Image) (bytes : Files) (other : Image) (others : Files) : Type 0 where
  pub header : ReadsAlike image other
  pub log : HasSameLog image other ⊎ HasEmptiedLog image other
  pub files : Fits (layout_in image) image → StandsFor other others (recovered image bytes).files

-- Whatever a power failure leaves of the parts and of the stores can take the place of the image and the bytes.
abbrev pub StandsStill : Image → Files → List Part → List Store → Type 0
StandsStill image bytes parts stores =
    (other : Image) (others : Files) → IsRowImage parts other → AreStoreImages stores others → TakesPlace image bytes other others

-- Whatever a power failure leaves of these stores recovers, by the same log, to the files of other ones.
abbrev pub RecoverAlike : Image → List Store → List Store → Type 0
RecoverAlike image was now =
    (bytes : Files) → AreStoreImages now bytes → (recovered image bytes).files ≡ (recovered image (files_of was)).files
