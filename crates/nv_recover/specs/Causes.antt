-- Causes: when recovery may answer what.
use Rattle.std.specs.Prelude.{◌≡◌, ℕ, Result, Ok, Err}
use Rattle.nv_plain.specs.Faults.{Rose}
use Rattle.nv_store.specs.declared.backing.StoreError.{StoreError}
use Rattle.nv_store.specs.declared.backing.StoreError.TheVariants.{Fault, NoMemory as NoRoom}
use Rattle.nv_recover.specs.declared.error.RecoverError.{RecoverError}
use Rattle.nv_recover.specs.declared.error.RecoverError.TheVariants.{BadEntry, RegionFault, StoreFault, NoMemory}

-- A fault of the region is answered only where the parts' counts rose, and any other error leaves them.
abbrev pub RegionFailed : ℕ → ℕ → RecoverError → Type 0
RegionFailed before now RegionFault = Rose before now
RegionFailed before now (BadEntry number) = now ≡ before
RegionFailed before now StoreFault = now ≡ before
RegionFailed before now NoMemory = now ≡ before

-- So it is with a fault of a store, and the stores' counts.
abbrev pub StoresFailed : ℕ → ℕ → RecoverError → Type 0
StoresFailed before now StoreFault = Rose before now
StoresFailed before now (BadEntry number) = now ≡ before
StoresFailed before now RegionFault = now ≡ before
StoresFailed before now NoMemory = now ≡ before

-- an answer has its cause in the parts' counts
abbrev pub HasRegionCause : {T : Type 0} → ℕ → ℕ → Result T RecoverError → Type 0
HasRegionCause before now (Ok _) = now ≡ before
HasRegionCause before now (Err error) = RegionFailed before now error

-- and in the stores'
abbrev pub HasStoreCause : {T : Type 0} → ℕ → ℕ → Result T RecoverError → Type 0
HasStoreCause before now (Ok _) = now ≡ before
HasStoreCause before now (Err error) = StoresFailed before now error

-- the error that a store's refusal of a write is answered as
abbrev pub of_store : StoreError → RecoverError
of_store Fault = StoreFault
of_store NoRoom = NoMemory
