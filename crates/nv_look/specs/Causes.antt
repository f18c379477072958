-- Causes: when a region isn't shown.
use Rattle.std.specs.Prelude.{◌≡◌, ℕ, Result, Ok, Err}
use Rattle.nv_plain.specs.Faults.{Rose}
use Rattle.nv_recover.specs.declared.error.RecoverError.{RecoverError}
use Rattle.nv_recover.specs.declared.error.RecoverError.TheVariants as recovery
use Rattle.nv_look.specs.declared.error.LookError.{LookError}
use Rattle.nv_look.specs.declared.error.LookError.TheVariants.{RegionFault, NoMemory}

-- A fault is answered only where the parts' counts rose in the call, and any other answer leaves them.
abbrev pub HasLookCause : {T : Type 0} → ℕ → ℕ → Result T LookError → Type 0
HasLookCause before now (Ok _) = now ≡ before
HasLookCause before now (Err RegionFault) = Rose before now
HasLookCause before now (Err NoMemory) = now ≡ before

-- the error that it is to a recovery
abbrev pub of_look : LookError → RecoverError
of_look RegionFault = recovery.RegionFault
of_look NoMemory = recovery.NoMemory
