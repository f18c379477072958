-- Moments: what holds of the states that a device has had. The present one is first, and there is none where it doesn't tell.
use Rattle.std.specs.Prelude.{◌≡◌, List, [], ◌∷◌, ◌++◌, All}

-- the present state, where the device tells, has a property
abbrev pub Tells : {S : Type 0} → List S → (S → Type 0) → Type 0
Tells [] P = Unit {0}
Tells (now ∷ past) P = P now

-- Each state of a call, where the device tells, has a property: the one before it and those that it led to.
pub record EachMoment {S : Type 0} (P : S → Type 0) (old new : List S) : Type 0 where
  pub since : List S
  pub states : new ≡ since ++ old
  pub at_first : Tells old P
  pub each : All P since
