-- Slot values: what a slot shows of what it holds.
use Rattle.std.specs.Prelude.{ℕ, List, [], ◌∷◌, Option, Some, None}
use Rattle.nv_pmem.specs.Part.{Part}
use Rattle.nv_pmem.specs.Room.{Room}
use Rattle.nv_store.specs.Store.{Store}
use Rattle.nv_core.specs.state.Spares.{spares_of}
use Rattle.nv_core.specs.state.Values.{Value, Bare, APart, AStore, ABuffer}
use Rattle.nv_table.specs.declared.slot.Slot.{Slot}
use Rattle.nv_table.specs.declared.slot.Slot.TheVariants.{Away, Part as PartSlot, Store as StoreSlot, Page as PageSlot}
use Rattle.nv_table.specs.declared.slot.PageBuffer.{PageBuffer}

-- the present state, of a device that tells
abbrev pub present : {State : Type 0} → List State → Option State
present [] = None
present (now ∷ past) = Some now

abbrev pub part_value : {L : Type 0} (device : L → ℕ) (history : L → List Part) (faults : L → ℕ) (room : L → Room) → L → Value
part_value device history faults room part =
    APart record { told = present (history part); faults = faults part; identity = device part } (spares_of (room part))

abbrev pub store_value : {B : Type 0} (device : B → ℕ) (history : B → List Store) (faults : B → ℕ) → B → Value
store_value device history faults store = AStore record { told = present (history store); faults = faults store; identity = device store }

abbrev pub buffer_value : Option PageBuffer → Value
buffer_value None = ABuffer None
buffer_value (Some buffer) = ABuffer (Some record { bytes = buffer.bytes.items; valid = buffer.valid })

-- A device that is away, in use by a call, shows nothing.
abbrev pub slot_value : {L B : Type 0} → (L → Value) → (B → Value) → Slot L B → Value
slot_value part store Away = Bare
slot_value part store (PartSlot device) = part device
slot_value part store (StoreSlot device) = store device
slot_value part store (PageSlot buffer) = buffer_value buffer
