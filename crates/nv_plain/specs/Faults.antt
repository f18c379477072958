-- Faults: a count of them, and when one may be answered.
use Rattle.std.specs.Prelude.{◌≡◌, ℕ, ◌+◌, ◌-◌, ◌^◌, ◌≤◌, min, Result, Ok, Err}

-- A count of faults rose: it is higher by one at least, or stands at its type's end.
pub record Rose (before now : ℕ) : Type 0 where
  pub never_falls : before ≤ now
  pub more : min (before + 1) (2 ^ 64 - 1) ≤ now

-- A fault is answered only where the count rose in the call, and any other answer leaves it.
abbrev pub HasCause : {T E : Type 0} → ℕ → ℕ → Result T E → Type 0
HasCause before now (Ok _) = now ≡ before
HasCause before now (Err _) = Rose before now

-- A count of 64 bits, and a sum of such counts that is one itself, stands still at 2^64 - 1.
abbrev pub saturated : ℕ → ℕ
saturated count = min count (2 ^ 64 - 1)

-- What rose by itself rose also as a count that stands still.
abbrev pub SaturatedCountsRise : Type 0
SaturatedCountsRise = (before now : ℕ) → Rose before now → Rose (saturated before) (saturated now)
