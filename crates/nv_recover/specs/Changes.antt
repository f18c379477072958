-- Changes: the one order in which calls change the parts and the stores, and what holds at each moment of it.
use Rattle.std.specs.Prelude.{ℕ, ◌≤◌, List, [], length, map, take, slice_index_or, slice_set}
use Rattle.nv_plain.specs.Layouts.{Layout}
use Rattle.nv_pmem.specs.Part.{Part}
use Rattle.nv_pmem.specs.Room.{Room}
use Rattle.nv_pmem.specs.Rows.{RowTells}
use Rattle.nv_pmem.specs.Runs.{run, Ran, grown}
use Rattle.nv_pmem.specs.Steps as lines
use Rattle.nv_store.specs.Steps as stores
use Rattle.nv_store.specs.Store.{Store}
use Rattle.nv_header.specs.Regions.{HasParts}

-- Some steps lead from one state to another, and a property holds before each of them and after the last.
pub record Throughout {T S : Type 0} (after : T → S → S) (P : S → Type 0) (old new : S) : Type 0 where
  pub steps : List T
  pub did : Ran after steps old new
  pub each : (count : ℕ) → count ≤ length steps → P (run after (take count steps) old)

-- ---- a row of devices

-- one of them comes to a further state
pub record Change (S : Type 0) : Type 0 where
  pub device : ℕ
  pub state : S

-- the histories of the row then
abbrev pub row_after_change : {S : Type 0} → Change S → List (List S) → List (List S)
row_after_change change row =
    slice_set row change.device (grown (λ state before. state) change.state (slice_index_or row change.device []))

-- The present states of a row, where all of its devices tell, have a property at each moment of a call. There is one order of
-- changes that leads from the old histories to the new ones, and the property holds before each of them and after the last.
-- Any call of a device may fail and end the whole, so one that makes its calls in another order is found out there.
abbrev pub ThroughoutRow : {S : Type 0} → (List S → Type 0) → List (List S) → List (List S) → Type 0
ThroughoutRow P old new = Throughout row_after_change (λ row. RowTells row P) old new

-- ---- parts and stores

-- the histories of a region's parts and of its stores
pub record Devices : Type 0 where
  pub parts : List lines.PartHistory
  pub stores : List stores.StoreHistory

-- those of some parts and stores
abbrev pub devices_of : {X Y : Type 0} → (X → lines.PartHistory) → (Y → stores.StoreHistory) → List X → List Y → Devices
devices_of part_history store_history parts stores = record { parts = map part_history parts; stores = map store_history stores }

-- one part comes to a further state, or one store
pub data DeviceChange : Type 0 where
  OfParts : Change Part → DeviceChange
  OfStores : Change Store → DeviceChange

abbrev pub devices_after_change : DeviceChange → Devices → Devices
devices_after_change (OfParts change) devices = record { parts = row_after_change change devices.parts; stores = devices.stores }
devices_after_change (OfStores change) devices = record { parts = devices.parts; stores = row_after_change change devices.stores }

-- the present states, where all of the devices tell, have a property
abbrev pub DevicesTell : Devices → (List Part → List Store → Type 0) → Type 0
DevicesTell devices P = RowTells devices.parts (λ parts. RowTells devices.stores (λ stores. P parts stores))

-- They have it at each moment of a call: there is one order of changes for parts and stores together.
abbrev pub ThroughoutDevices : (List Part → List Store → Type 0) → Devices → Devices → Type 0
ThroughoutDevices P old new = Throughout devices_after_change (λ devices. DevicesTell devices P) old new

-- ---- room

-- Parts that are those of a region of some layout are so after a call: lines that could take 15 stores still can, also where
-- the region that was there doesn't have them.
abbrev pub StayParts : (old new : List Room) → Type 0
StayParts old new = (layout : Layout) (page entries : ℕ) → HasParts layout page entries old → HasParts layout page entries new
