-- Laws about stores and their images, for what stands on them.
use Rattle.std.specs.Prelude.{◌≡◌, ◌↔◌, ℕ, List, length}
use Rattle.nv_plain.specs.Files.{overwritten}
use Rattle.nv_store.specs.Store.{Store, IsWholeStore, IsQuietStore}
use Rattle.nv_store.specs.Steps.{StoreStep, Write, Sync, after_store_step}
use Rattle.nv_store.specs.Torn.{IsTorn}
use Rattle.nv_store.specs.Images.{IsStoreImage}

-- What reads give of a whole store is one of its images.
abbrev pub SeenIsAnImage : Type 0
SeenIsAnImage = (store : Store) → IsWholeStore store → IsStoreImage store store.seen

-- A quiet store has one image: what reads give.
abbrev pub QuietStoreHasOneImage : Type 0
QuietStoreHasOneImage = (store : Store) (image : List ℕ) → IsQuietStore store → (IsStoreImage store image ↔ (image ≡ store.seen))

-- So has any store after a sync.
abbrev pub SyncedHasOneImage : Type 0
SyncedHasOneImage = (store : Store) (image : List ℕ) → IsStoreImage (after_store_step Sync store) image ↔ (image ≡ store.seen)

-- Steps keep a store whole.
abbrev pub StepsKeepWhole : Type 0
StepsKeepWhole = (step : StoreStep) (store : Store) → IsWholeStore store → IsWholeStore (after_store_step step store)

-- So do torn writes.
abbrev pub TornWritesKeepWhole : Type 0
TornWritesKeepWhole = (at count : ℕ) (old new : Store) → IsWholeStore old → IsTorn at count old new → IsWholeStore new

-- A write that is made is a torn one of which all came.
abbrev pub WritesAreTorn : Type 0
WritesAreTorn = (at : ℕ) (bytes : List ℕ) (store : Store) → IsTorn at (length bytes) store (after_store_step (Write at bytes) store)

-- Some image of a store is the same as these bytes once both are overwritten.
pub record IsCovered (at : ℕ) (bytes : List ℕ) (store : Store) (image : List ℕ) : Type 0 where
  pub before : List ℕ
  pub is_image : IsStoreImage store before
  pub same : overwritten image at bytes ≡ overwritten before at bytes

-- After a write, torn or made, each image is the same as some image before it, once both are overwritten by all of the
-- bytes. So a write that is made again after a power failure leaves what it would have left without the first one.
abbrev pub WritesAreCovered : Type 0
WritesAreCovered =
    (at : ℕ) (bytes : List ℕ) (old new : Store) (image : List ℕ)
    → IsWholeStore old → IsTorn at (length bytes) old new → IsStoreImage new image → IsCovered at bytes old image
