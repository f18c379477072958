-- What power leaves of the devices of a bench.
use Rattle.std.specs.Prelude.{◌≡◌, ℕ, ◌<◌, length, map, All, slice_index_or}
use Rattle.nv_pmem.specs.Rows.{IsRowImage, row_words}
use Rattle.nv_pmem.specs.declared.picker.Pick.{Pick}
use Rattle.nv_store.specs.Images.{IsStoreImage}
use Rattle.nv_store.specs.Store.{IsWholeStore}
use Rattle.nv_bench.specs.Holding.{NamedStore, Holding, IsQuietHolding}
use Rattle.nv_bench.specs.Powered.{powered}

-- each store of a holding is whole
abbrev pub AreWholeStores : Holding → Type 0
AreWholeStores holding = All (λ named. IsWholeStore named.store) holding.stores

-- What one holding holds is an image of what another one does, and each store has its name.
pub record IsHoldingImage (was now : Holding) : Type 0 where
  pub parts : IsRowImage was.parts (row_words now.parts)
  pub names : map (λ named. named.name) now.stores ≡ map (λ named. named.name) was.stores
  pub stores : (i : ℕ) (none : NamedStore) → i < length was.stores
      → IsStoreImage (slice_index_or was.stores i none).store (slice_index_or now.stores i none).store.seen

-- After a power failure the devices hold one of their images, and are quiet.
abbrev pub PowerLeavesAnImage : Type 0
PowerLeavesAnImage =
    (pick : Pick) (holding : Holding) → AreWholeStores holding
    → IsHoldingImage holding (powered pick holding) × IsQuietHolding (powered pick holding)
