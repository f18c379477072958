-- Interrupted: recoveries that power failures stop, one after another.
use Rattle.std.specs.Prelude.{◌≡◌, ◌⊎◌, ℕ, ◌≤◌, List, [], ◌∷◌, length, take}
use Rattle.nv_plain.specs.Files.{Files}
use Rattle.nv_plain.specs.Images.{Image, layout_in}
use Rattle.nv_plain.specs.Recovered.{Fits, recovered}
use Rattle.nv_pmem.specs.Part.{Part}
use Rattle.nv_pmem.specs.Rows.{IsRowImage, row_words}
use Rattle.nv_pmem.specs.Runs.{run}
use Rattle.nv_store.specs.Store.{Store}
use Rattle.nv_header.specs.Heads.{IsHead}
use Rattle.nv_pmem.specs.RowStates.{AreNow}
use Rattle.nv_recover.specs.Changes.{Devices, devices_after_change, ThroughoutDevices}
use Rattle.nv_recover.specs.Recovering.{StandThroughout}
use Rattle.nv_recover.specs.Standing.{AreStoreImages, HasSameLog, ReadsAlike, StandsStill, files_of}
use Rattle.nv_recover.specs.Telling.{AllTell}

-- What a recovery begins on: an image of a region, and the bytes of its stores.
pub record Start : Type 0 where
  pub image : Image
  pub bytes : Files

-- the start that quiet parts and stores are
abbrev pub start_of : List Part → List Store → Start
start_of parts stores = record { image = row_words parts; bytes = files_of stores }

-- the header of a start can be read
abbrev pub StartReads : Start → Type 0
StartReads start = IsHead (layout_in start.image) (layout_in start.image).header_lines start.image

-- the image of a start fits
abbrev pub StartFits : Start → Type 0
StartFits start = Fits (layout_in start.image) start.image

-- the files that a start stands for
abbrev pub files_from : Start → Files
files_from start = (recovered start.image start.bytes).files

-- A recovery that began on a start led its devices from these histories to those, as it promises.
abbrev pub IsRecoveryRun : Start → Devices → Devices → Type 0
IsRecoveryRun start old new = ThroughoutDevices (StandsStill start.image start.bytes) old new

-- A recovery began on one start. Power failed at some moment of it, and what was left of the devices is the other start.
pub record IsRecoveryStop (before after : Start) : Type 0 where
  pub old : Devices
  pub new : Devices
  pub run_is : IsRecoveryRun before old new
  -- how many changes it had made
  pub count : ℕ
  pub no_more : count ≤ length run_is.steps
  -- what the devices then held, and what was left of it
  pub parts : List Part
  pub stores : List Store
  pub parts_are : AreNow (run devices_after_change (take count run_is.steps) old).parts parts
  pub stores_are : AreNow (run devices_after_change (take count run_is.steps) old).stores stores
  pub image : IsRowImage parts after.image
  pub bytes : AreStoreImages stores after.bytes

-- Power may also fail after the last change of a recovery, whatever it answered.
abbrev pub EndsAreStops : Type 0
EndsAreStops =
    (before after : Start) (old new : Devices) (parts : List Part) (stores : List Store)
    → IsRecoveryRun before old new → AreNow new.parts parts → AreNow new.stores stores
    → IsRowImage parts after.image → AreStoreImages stores after.bytes → IsRecoveryStop before after

-- Any number of stops, each of a recovery that began on what the one before it came to.
abbrev pub AreStops : Start → List Start → Type 0
AreStops first [] = Unit {0}
AreStops first (next ∷ later) = IsRecoveryStop first next × AreStops next later

-- the start that they come to in the end; the first one, where there are none
abbrev pub last_of : Start → List Start → Start
last_of first [] = first
last_of first (next ∷ later) = last_of next later

-- What `recover` promises of its moments, over devices that tell, is such a run from the start that they held.
abbrev pub PromisesAreRuns : Type 0
PromisesAreRuns =
    (old new : Devices) (parts : List Part) (stores : List Store)
    → AreNow old.parts parts → AreNow old.stores stores → StandThroughout old new
    → IsRecoveryRun (start_of parts stores) old new

-- And the devices that told still tell.
abbrev pub PromisesKeepTelling : Type 0
PromisesKeepTelling =
    (old new : Devices) → AllTell old.parts → AllTell old.stores → StandThroughout old new
    → AllTell new.parts × AllTell new.stores

-- However many stops there are, the last header reads like the first one, so that it can be recovered.
abbrev pub StopsKeepHeader : Type 0
StopsKeepHeader =
    (first : Start) (later : List Start)
    → AreStops first later → StartReads first → ReadsAlike first.image (last_of first later).image

-- The log of the other image has no groups, and is where that of the image goes on.
pub record HasDoneLog (image other : Image) : Type 0 where
  pub first : (stores : Files) → (recovered other stores).first ≡ (recovered image stores).next
  pub groups : (stores : Files) → (recovered other stores).groups ≡ []
  pub next : (stores : Files) → (recovered other stores).next ≡ (recovered image stores).next

-- The last log says what the first one does, or all of it is done.
abbrev pub StopsKeepLog : Type 0
StopsKeepLog =
    (first : Start) (later : List Start)
    → AreStops first later → HasSameLog first.image (last_of first later).image ⊎ HasDoneLog first.image (last_of first later).image

-- Where the first image fits the last one does.
abbrev pub StopsKeepFit : Type 0
StopsKeepFit = (first : Start) (later : List Start) → AreStops first later → StartFits first → StartFits (last_of first later)

-- And the last start stands for the files of the first one.
abbrev pub StopsKeepFiles : Type 0
StopsKeepFiles =
    (first : Start) (later : List Start)
    → AreStops first later → StartFits first → files_from (last_of first later) ≡ files_from first

-- So stores that hold the files of the last start, as a recovery that is not stopped leaves them, hold those of the first.
abbrev pub LastHoldsFiles : Type 0
LastHoldsFiles =
    (first : Start) (later : List Start) (held : List Store)
    → AreStops first later → StartFits first
    → files_of held ≡ files_from (last_of first later) → files_of held ≡ files_from first
