-- Heeds: a pass that has seen STOP set cleans nothing any more.
use Rattle.std.specs.Prelude.{◌≡◌, ◌⊎◌, true}
use Rattle.nv_core.specs.state.Words.{Sizes, CLEANER, HEADER, place}
use Rattle.nv_table.specs.state.States.{PassState}
use Rattle.nv_table.specs.state.Views.{pass_of}
use Rattle.nv_clean.specs.declared.batch.CleanRefusal.{CleanRefusal}
use Rattle.nv_clean.specs.declared.batch.CleanRefusal.TheVariants.{Busy, Stopped}

-- it has seen STOP as 1, or set it
abbrev pub HasSeenStop : PassState → Type 0
HasSeenStop pass = (pass_of pass.view).stopped ≡ true

-- It is refused by STOP, or before it comes to that: by CLEANER or HEADER.
abbrev pub IsHeld : Sizes → CleanRefusal → Type 0
IsHeld sizes Stopped = Unit {0}
IsHeld sizes (Busy cell) = (cell ≡ place sizes CLEANER) ⊎ (cell ≡ place sizes HEADER)
IsHeld sizes refusal = ⊥
