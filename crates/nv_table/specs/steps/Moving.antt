-- Moving: which slot a caller says that a step moves.
use Rattle.std.specs.Prelude.{ℕ, ◌==◌, if◌then◌else◌, Option, Some, None}
use Rattle.nv_table.specs.state.States.{Shift, Rests, In, Out}
use Rattle.nv_table.specs.declared.stepping.Moves.{Moves}
use Rattle.nv_table.specs.declared.stepping.Moves.TheVariants.{Stays, Comes, ComesIfFree, Goes}

abbrev pub shift_said : Moves → (found : ℕ) → Shift
shift_said Stays found = Rests
shift_said (Comes slot) found = In slot
shift_said (ComesIfFree slot) found = if found == 0 then In slot else Rests
shift_said (Goes slot) found = Out slot

-- the slot that comes by a shift, if one does
abbrev pub comes_by : Shift → Option ℕ
comes_by (In slot) = Some slot
comes_by shift = None
