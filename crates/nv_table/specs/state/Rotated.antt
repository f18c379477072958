-- Rotated: the same slots from another one on.
use Rattle.std.specs.Prelude.{◌≡◌, ℕ, ◌++◌, List, take, drop}
use Rattle.nv_table.specs.state.States.{PassState}

abbrev pub IsTurned : {T : Type 0} → (old new : List T) → Type 0
IsTurned old new = (i : ℕ) × (new ≡ drop i old ++ take i old)

-- a pass whose slots stand in another order
pub record SameButTurned (old new : PassState) : Type 0 where
  pub table : new.table ≡ old.table
  pub view : new.view ≡ old.view
  pub turned : IsTurned old.now new.now
  pub spare : new.spare ≡ old.spare
