-- Images: which bytes a power failure may leave of a store.
use Rattle.std.specs.Prelude.{◌≡◌, ℕ, ◌≤◌, false, List, length, slice_index}
use Rattle.nv_store.specs.Store.{Store, is_unsynced, durable_byte}

-- An image has any length from the durable to the present one. A byte that wasn't written since the last sync is the
-- durable one, or zero past the durable length, and so it is in a gap. Any other byte is any byte.
pub record IsStoreImage (store : Store) (image : List ℕ) : Type 0 where
  pub no_shorter : length store.durable ≤ length image
  pub no_longer : length image ≤ length store.seen
  pub synced : (i : ℕ) → is_unsynced store i ≡ false → slice_index image i ≡ durable_byte store i

-- each image of a store has a property
abbrev pub InEachStoreImage : (List ℕ → Type 0) → Store → Type 0
InEachStoreImage P store = (image : List ℕ) → IsStoreImage store image → P image
