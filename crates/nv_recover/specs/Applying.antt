-- Applying: what the entries of a log make of the stores, written one after another.
use Rattle.std.specs.Prelude.{◌≡◌, ◌⊎◌, ℕ, List, [], ◌∷◌, ◌++◌, slice_index_or, slice_set}
use Rattle.std.specs.List.{flat_map, range_with_len}
use Rattle.nv_plain.specs.Files.{Files}
use Rattle.nv_plain.specs.Images.{Image, entry_at, slot_part, data_of, layout_in}
use Rattle.nv_plain.specs.Recovered.{IsGroup, IsPiece, committed, group_numbers, recovered}
use Rattle.nv_pmem.specs.Rows.{RowTells, row_words}
use Rattle.nv_pmem.specs.Steps as lines
use Rattle.nv_store.specs.Steps as stores
use Rattle.nv_store.specs.Steps.{Write, after_store_step}
use Rattle.nv_store.specs.Store.{Store}
use Rattle.nv_store.specs.Torn.{IsTorn}
use Rattle.nv_recover.specs.Changes.{Change, row_after_change, ThroughoutRow}
use Rattle.nv_recover.specs.Standing.{AreStoreImages}
use Rattle.nv_recover.specs.declared.group.Group.{Group}

-- a fact about the words of a region and its stores before and after a call, where all of them tell
abbrev pub AcrossTells : List lines.PartHistory → List stores.StoreHistory → List stores.StoreHistory → (Image → List Store → List Store → Type 0) → Type 0
AcrossTells parts old new R = RowTells parts (λ parts. RowTells old (λ was. RowTells new (λ now. R (row_words parts) was now)))

-- a fact about the words of a region and its stores, as they were and as they are at each moment of a call
abbrev pub AcrossThroughout : List lines.PartHistory → List stores.StoreHistory → List stores.StoreHistory → (Image → List Store → List Store → Type 0) → Type 0
AcrossThroughout parts old new R = RowTells parts (λ parts. RowTells old (λ was. ThroughoutRow (R (row_words parts) was) old new))

-- ---- which numbers are written

-- the numbers of all entries that an image recovers from
abbrev pub recovered_numbers : Image → List ℕ
recovered_numbers image = flat_map (group_numbers image) (committed image)

-- some numbers stand among them, in a row
pub record AreAmong (image : Image) (numbers : List ℕ) : Type 0 where
  pub before : List ℕ
  pub after : List ℕ
  pub all : recovered_numbers image ≡ before ++ (numbers ++ after)

-- a committed group, whole
pub record IsGroupOf (image : Image) (group : Group) : Type 0 where
  pub whole : IsGroup (layout_in image) image group.leader
  pub count : group.count ≡ (entry_at image group.leader).count
  pub among : AreAmong image (range_with_len group.leader group.count)

-- the number of an entry of a committed group
pub record IsNumberOf (image : Image) (number : ℕ) : Type 0 where
  pub leader : ℕ
  pub piece : IsPiece (layout_in image) image leader number
  pub among : AreAmong image (number ∷ [])

-- the piece of an entry: which file it is of, where it goes and its bytes
pub record HasPiece (image : Image) (number file at : ℕ) (bytes : List ℕ) : Type 0 where
  pub file_is : (entry_at image number).file ≡ file
  pub at_is : (entry_at image number).at ≡ at
  pub bytes_are : data_of (slot_part image number) (entry_at image number).size ≡ bytes

-- ---- what that makes of the stores

-- some files recover as an image of the stores
pub record RecoversAsSome (image : Image) (was : List Store) (bytes : Files) : Type 0 where
  pub before : Files
  pub is_image : AreStoreImages was before
  pub same : (recovered image bytes).files ≡ (recovered image before).files

-- Whatever a power failure leaves of the stores now recovers as something that it might have left of them before.
abbrev pub StaysAlike : Image → List Store → List Store → Type 0
StaysAlike image was now = (bytes : Files) → AreStoreImages now bytes → RecoversAsSome image was bytes

-- one of the stores was written
pub record OneWritten (file at : ℕ) (bytes : List ℕ) (was now : List Store) : Type 0 where
  pub old : Store
  pub old_is : (none : Store) → slice_index_or was file none ≡ old
  pub is : now ≡ slice_set was file (after_store_step (Write at bytes) old)

-- or a write to it was torn
pub record OneTorn (file at count : ℕ) (was now : List Store) : Type 0 where
  pub old : Store
  pub new : Store
  pub old_is : (none : Store) → slice_index_or was file none ≡ old
  pub torn : IsTorn at count old new
  pub is : now ≡ slice_set was file new

-- a write to one of the stores that may have failed
abbrev pub LeftOrOneTorn : ℕ → ℕ → ℕ → List Store → List Store → Type 0
LeftOrOneTorn file at count was now = (now ≡ was) ⊎ OneTorn file at count was now

-- A call on stores made one change at most: they are as they were, or one of those that tell comes to a further state.
abbrev pub ChangesAtMostOne : List stores.StoreHistory → List stores.StoreHistory → Type 0
ChangesAtMostOne old new = (new ≡ old) ⊎ ((change : Change Store) × (new ≡ row_after_change change old))
