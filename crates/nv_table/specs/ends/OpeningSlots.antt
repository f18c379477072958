-- Opening slots: what the slots of a mount hold when it begins.
use Rattle.std.specs.Prelude.{◌≡◌, ℕ, ◌+◌, ◌<◌, ◌≤◌, false, List, [], ◌∷◌, ◌++◌, length, map, take, slice_index_or, Option, Some, None}
use Rattle.nv_core.specs.state.Words.{Sizes, page_total}
use Rattle.nv_table.specs.declared.slot.Slot.{Slot}
use Rattle.nv_table.specs.declared.slot.Slot.TheVariants.{Part, Store, Page}
use Rattle.nv_table.specs.declared.slot.PageBuffer.{PageBuffer}

-- a buffer of so many bytes, which don't count
abbrev pub IsFreshBuffer : (size : ℕ) → Option PageBuffer → Type 0
IsFreshBuffer size None = ⊥
IsFreshBuffer size (Some buffer) = (length buffer.bytes.items ≡ size) × (buffer.valid ≡ false)

-- There is one for each of the first pages, and none for the others.
pub record AreBuffers (sizes : Sizes) (buffers : List (Option PageBuffer)) : Type 0 where
  pub count : length buffers ≡ page_total sizes
  pub first : (page : ℕ) → page < sizes.buffers → IsFreshBuffer sizes.page (slice_index_or buffers page None)
  pub others : (page : ℕ) → sizes.buffers ≤ page → slice_index_or buffers page None ≡ None

-- parts, stores and buffers, in the order of their slots
abbrev pub in_slots : {L B : Type 0} → List L → List B → List (Option PageBuffer) → List (Slot L B)
in_slots parts stores buffers = map Part parts ++ map Store stores ++ map Page buffers

-- The header's part, that of each entry, the stores, and buffers. Further parts have no slot.
pub record AreOpeningSlots {L B : Type 0} (sizes : Sizes) (parts : List L) (stores : List B) (slots : List (Slot L B)) : Type 0 where
  pub buffers : List (Option PageBuffer)
  pub are_buffers : AreBuffers sizes buffers
  pub are : slots ≡ in_slots (take (1 + sizes.entries) parts) stores buffers

-- ---- what comes back out of slots

-- the parts among some slots, and the stores, in their order
abbrev pub parts_in : {L B : Type 0} → List (Slot L B) → List L
parts_in [] = []
parts_in (Part part ∷ rest) = part ∷ parts_in rest
parts_in (slot ∷ rest) = parts_in rest

abbrev pub stores_in : {L B : Type 0} → List (Slot L B) → List B
stores_in [] = []
stores_in (Store store ∷ rest) = store ∷ stores_in rest
stores_in (slot ∷ rest) = stores_in rest
