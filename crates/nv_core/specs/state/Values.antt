-- Values: what the cells keep. A cell is a lock or an entry, by its word.
use Rattle.std.specs.Prelude.{ℕ, Bool, true, false, if◌then◌else◌, List, [], Option, Some, None, option_map}
use Rattle.nv_plain.specs.Files.{overwritten}
use Rattle.nv_pmem.specs.Part.{Part}
use Rattle.nv_pmem.specs.Steps.{LineStep, after_line_step}
use Rattle.nv_store.specs.Store.{Store}
use Rattle.nv_store.specs.Steps.{Sync, after_store_step}
use Rattle.nv_core.specs.state.Spares.{Spares}

-- A device: what it tells of its state, or nothing, how often it has failed, and which one it is.
pub record Device (State : Type 0) : Type 0 where
  pub told : Option State
  pub faults : ℕ
  pub identity : ℕ

-- A buffer: a page's bytes, and whether they are valid.
pub record Buffer : Type 0 where
  pub bytes : List ℕ
  pub valid : Bool

-- What a cell keeps: a part of the region with what its lines can still take, a store, a page's buffer or none, or nothing at all.
pub data Value : Type 0 where
  Bare : Value
  APart : Device Part → Spares → Value
  AStore : Device Store → Value
  ABuffer : Option Buffer → Value

-- ---- device calls

-- One call on a device: a step of a part, with what it leaves its lines to take; or a read, with the offset in the file and the bytes that it gives:
-- of a store, or of the piece of the entry that a part holds.
pub data Job : Type 0 where
  PartStep : LineStep → (spares : Spares) → Job
  PageRead : (at : ℕ) (bytes : List ℕ) → Job
  PieceRead : (at : ℕ) (bytes : List ℕ) → Job
  -- a write to a store, with what it leaves of it, and a sync
  PieceWrite : (at : ℕ) (bytes : List ℕ) (left : Option Store) → Job
  StoreSync : Job

-- How it ended: well; or failed, having done its work or not, with the count that it left; or, of a write to a store, refused for want of
-- memory, with nothing changed.
pub data CallEnding : Type 0 where
  Made : CallEnding
  Failed : (came : Bool) (faults : ℕ) → CallEnding
  Refused : CallEnding

-- whether a call did its work
abbrev pub has_come : CallEnding → Bool
has_come Made = true
has_come (Failed came faults) = came
has_come Refused = false

-- how often a device has failed after a call
abbrev pub faults_after : CallEnding → ℕ → ℕ
faults_after Made before = before
faults_after (Failed came faults) before = faults
faults_after Refused before = before

-- what a part tells after a call on it
abbrev pub part_after : Job → Bool → Option Part → Option Part
part_after (PartStep step spares) true told = option_map (after_line_step step) told
part_after _ _ told = told

-- and what its lines can take then
abbrev pub spares_after : Job → Spares → Spares
spares_after (PartStep step spares) before = spares
spares_after job before = before

-- what a store tells after a call on it
abbrev pub store_after : Job → Bool → Option Store → Option Store
store_after (PieceWrite at bytes left) came told = left
store_after StoreSync true told = option_map (after_store_step Sync) told
store_after job came told = told

-- what a cell keeps after a call on its device
abbrev pub called : Job → CallEnding → Value → Value
called job ending (APart device spares) =
    APart record device { told = part_after job (has_come ending) device.told; faults = faults_after ending device.faults } (spares_after job spares)
called job ending (AStore device) =
    AStore record device { told = store_after job (has_come ending) device.told; faults = faults_after ending device.faults }
called job ending Bare = Bare
called job ending (ABuffer buffer) = ABuffer buffer

-- how often a cell's device has failed; no device never fails
abbrev pub faults_of : Value → ℕ
faults_of (APart device spares) = device.faults
faults_of (AStore device) = device.faults
faults_of _ = 0

-- which device a cell keeps, counting parts and stores apart from 1; 0 where it keeps none
abbrev pub identity_of : Value → ℕ
identity_of (APart device spares) = device.identity
identity_of (AStore device) = device.identity
identity_of _ = 0

-- ---- buffers

-- how many buffers a cell keeps
abbrev pub buffers_in : Value → ℕ
buffers_in (ABuffer (Some buffer)) = 1
buffers_in _ = 0

-- whether a cell's buffer is valid
abbrev pub is_valid : Value → Bool
is_valid (ABuffer (Some buffer)) = buffer.valid
is_valid _ = false

-- the bytes of a cell's buffer
abbrev pub bytes_in : Value → List ℕ
bytes_in (ABuffer (Some buffer)) = buffer.bytes
bytes_in _ = []

-- whether a cell is one for a buffer, and keeps none
abbrev pub lacks_buffer : Value → Bool
lacks_buffer (ABuffer None) = true
lacks_buffer value = false

-- its buffer is taken out
abbrev pub emptied : Value → Value
emptied (ABuffer buffer) = ABuffer None
emptied value = value

-- the buffer of another cell comes into one that lacks one, and isn't valid there
abbrev pub received : Value → Value → Value
received (ABuffer (Some buffer)) (ABuffer None) = ABuffer (Some record { bytes = buffer.bytes; valid = false })
received other value = value

-- a page's bytes come into its buffer, if it has one
abbrev pub filled : List ℕ → Value → Value
filled bytes (ABuffer (Some buffer)) = ABuffer (Some record { bytes = bytes; valid = true })
filled bytes value = value

-- a piece comes into a valid buffer
abbrev pub patched : (at : ℕ) → List ℕ → Value → Value
patched at bytes (ABuffer (Some buffer)) = ABuffer (Some record {
  bytes = if buffer.valid then overwritten buffer.bytes at bytes else buffer.bytes;
  valid = buffer.valid;
})
patched at bytes value = value
