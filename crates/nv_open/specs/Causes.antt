-- Causes: when an opening may answer what.
use Rattle.std.specs.Prelude.{◌≡◌, ℕ, Result, Ok, Err}
use Rattle.nv_plain.specs.Faults.{Rose}
use Rattle.nv_open.specs.declared.error.OpenError.{OpenError}
use Rattle.nv_open.specs.declared.error.OpenError.TheVariants.{Refused, Fault, NoMemory}

-- A fault is answered only where the count rose, and any other error leaves it.
abbrev pub ErrorHasCause : (before now : ℕ) → OpenError → Type 0
ErrorHasCause before now (Refused why) = now ≡ before
ErrorHasCause before now Fault = Rose before now
ErrorHasCause before now NoMemory = now ≡ before

-- an answer too
abbrev pub OpenHasCause : {T : Type 0} → (before now : ℕ) → Result T OpenError → Type 0
OpenHasCause before now (Ok _) = now ≡ before
OpenHasCause before now (Err error) = ErrorHasCause before now error

-- and one of a region, or of its parts with an error
abbrev pub RegionHasCause : {T P : Type 0} → (before now : ℕ) → Result T (P × OpenError) → Type 0
RegionHasCause before now (Ok _) = now ≡ before
RegionHasCause before now (Err failed) = ErrorHasCause before now failed.1
