-- Mounts: what contracts see of a mount, and how it is opened.
use Rattle.std.specs.Prelude.{◌≡◌, ℕ, List, length, map, Result, Ok, Err}
use Rattle.std.specs.List.{AllZip}
use Rattle.nv_plain.specs.Faults.{Rose}
use Rattle.nv_pmem.specs.Moments.{Tells}
use Rattle.nv_store.specs.Steps.{StoreHistory}
use Rattle.nv_core.specs.state.Words.{Sizes}
use Rattle.nv_core.specs.state.Values.{Value}
use Rattle.nv_table.specs.declared.slot.Slot.{Slot}
use Rattle.nv_table.specs.ends.Begun.{IsBegun}
use Rattle.nv_table.specs.state.States.{BoardState, PassState}
use Rattle.nv_mount.specs.declared.fds.Fd.{Fd}
use Rattle.nv_mount.specs.declared.refusals.OpenError.{OpenError}
use Rattle.nv_mount.specs.declared.refusals.OpenError.TheVariants.{NoMemory, StoreFault}

-- a mount: its board, and its descriptors
pub record MountState : Type 0 where
  pub board : BoardState
  pub fds : List Fd

-- ---- lengths

-- Each store that tells gives this many bytes to reads.
abbrev pub AreLengths : List StoreHistory → List ℕ → Type 0
AreLengths row lengths = AllZip (λ history len. Tells history (λ store. len ≡ length store.seen)) row lengths

-- A fault of a store is answered only where the stores' counts rose, and any other error leaves them.
abbrev pub HasOpenCause : (before now : ℕ) → OpenError → Type 0
HasOpenCause before now StoreFault = Rose before now
HasOpenCause before now NoMemory = now ≡ before

abbrev pub HasLengthsCause : {T : Type 0} → (before now : ℕ) → Result T OpenError → Type 0
HasLengthsCause before now (Ok _) = now ≡ before
HasLengthsCause before now (Err error) = HasOpenCause before now error

-- ---- a mount and pass 0, as they are made

-- The stores have told their lengths, and are otherwise as they were. The board is made of them and of the region's parts, and stands with
-- the descriptors.
pub record IsOpened {L B : Type 0} (shown : Slot L B → Value) (store_device : B → ℕ) (history : B → StoreHistory) (fault_count : B → ℕ)
    (sizes : Sizes) (next : ℕ) (parts : List L) (stores : List B) (fds : List Fd) (mount : MountState) (pass : PassState) : Type 0 where
  pub asked : List B
  pub same_devices : map store_device asked ≡ map store_device stores
  pub same_histories : map history asked ≡ map history stores
  pub same_faults : map fault_count asked ≡ map fault_count stores
  pub lengths : List ℕ
  pub told : AreLengths (map history stores) lengths
  pub begun : IsBegun shown sizes next lengths parts asked mount.board pass
  pub fds_are : mount.fds ≡ fds
