-- Causes: when a write may answer what.
use Rattle.std.specs.Prelude.{◌≡◌, ℕ, Result, Ok, Err}
use Rattle.nv_plain.specs.Faults.{Rose}
use Rattle.nv_store.specs.declared.backing.StoreError.{StoreError}
use Rattle.nv_store.specs.declared.backing.StoreError.TheVariants.{Fault, NoMemory}

-- A write answers a fault only where the count rose in the call, and any other answer leaves it.
abbrev pub HasWriteCause : {T : Type 0} → ℕ → ℕ → Result T StoreError → Type 0
HasWriteCause before now (Ok _) = now ≡ before
HasWriteCause before now (Err Fault) = Rose before now
HasWriteCause before now (Err NoMemory) = now ≡ before
