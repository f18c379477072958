-- Recovering: what recovery gives, and what its devices stand for at each moment of it.
use Rattle.std.specs.Prelude.{◌≡◌, ℕ, ◌+◌, List, drop, fold, map}
use Rattle.nv_plain.specs.Files.{Files}
use Rattle.nv_plain.specs.Images.{Image, layout_in}
use Rattle.nv_plain.specs.Recovered.{Fits, recovered}
use Rattle.nv_pmem.specs.Room.{Room}
use Rattle.nv_pmem.specs.Rows.{RowTells, row_words}
use Rattle.nv_pmem.specs.Steps as lines
use Rattle.nv_store.specs.Steps as stores
use Rattle.nv_store.specs.Store.{Store}
use Rattle.nv_recover.specs.Changes.{Devices, DevicesTell, ThroughoutDevices, devices_of}
use Rattle.nv_recover.specs.Standing.{AreQuietStores, StandsStill, files_of}
use Rattle.nv_recover.specs.declared.group.Group.{Group}
use Rattle.nv_recover.specs.declared.recovering.Recovered.{Recovered}

-- the end of the last of some groups; the tail, where there is none
abbrev pub end_of : ℕ → List Group → ℕ
end_of tail groups = fold (λ next group. group.leader + group.count) tail groups

-- A recovery of an image found that it fits, its tail, its groups and its next number, whatever the stores hold.
pub record HasFoundAll (image : Image) (found : Recovered) : Type 0 where
  pub fits : Fits (layout_in image) image
  pub first : (stores : Files) → found.first ≡ (recovered image stores).first
  pub next : (stores : Files) → found.next ≡ (recovered image stores).next
  pub groups : (stores : Files) → found.groups ≡ (recovered image stores).groups

-- The stores hold the files that the image stood for, and they are durable.
pub record HoldRecovered (image : Image) (was now : List Store) : Type 0 where
  pub files : files_of now ≡ (recovered image (files_of was)).files
  pub synced : AreQuietStores now

-- Where the parts tell of an image that doesn't fit, nothing was written: the stores are as they were, and the parts too.
abbrev pub UnfitIsUnwritten : Devices → Devices → Type 0
UnfitIsUnwritten old new = RowTells old.parts (λ parts. ¬ Fits (layout_in (row_words parts)) (row_words parts) → new ≡ old)

-- At each moment of a call, where all devices tell, whatever a power failure leaves of them can take the place of the image
-- that the parts had and the bytes that the stores had.
abbrev pub StandThroughout : Devices → Devices → Type 0
StandThroughout old new =
    DevicesTell old (λ parts stores. ThroughoutDevices (StandsStill (row_words parts) (files_of stores)) old new)

-- What recovery keeps of parts and stores, whichever answer came: at each moment they can take the place of what was there;
-- where the image doesn't fit nothing is written; the parts behind the first so many are left alone; and each is the device
-- that it was, in its place, with as many lines.
pub record AreKept {X Y : Type 0} (history : X → lines.PartHistory) (room : X → Room) (device : X → ℕ) (held : Y → stores.StoreHistory) (disk : Y → ℕ)
    (used : ℕ) (parts : List X) (backing : List Y) (parts_now : List X) (backing_now : List Y) : Type 0 where
  pub moments : StandThroughout (devices_of history held parts backing) (devices_of history held parts_now backing_now)
  pub unfit : UnfitIsUnwritten (devices_of history held parts backing) (devices_of history held parts_now backing_now)
  pub further : drop used (map history parts_now) ≡ drop used (map history parts)
  pub lines : map (λ part. (room part).lines) parts_now ≡ map (λ part. (room part).lines) parts
  pub devices : map device parts_now ≡ map device parts
  pub stores : map disk backing_now ≡ map disk backing
