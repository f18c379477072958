-- Opened: how a mount was opened, as plain data.
use Rattle.std.specs.Prelude.{ℕ, List, slice_index, slice_index_or, Option, Some, None}
use Rattle.nv_core.specs.state.Words.{Sizes}
use Rattle.nv_core.specs.state.Values.{Value, Bare}
use Rattle.nv_core.specs.steps.Opening.{Mount, opening}
use Rattle.nv_core.specs.state.Core.{Core}
use Rattle.nv_core.specs.steps.Events.{Event, after_run, IsRun}
use Rattle.nv_table.specs.state.Layout.{slot_of_cell}

-- its sizes, the next number of its region's log, the lengths of its files, and what its slots held
pub record Opened : Type 0 where
  pub sizes : Sizes
  pub next : ℕ
  pub lengths : List ℕ
  pub slots : List Value

-- what a slot holds, if there is one
abbrev pub held_in : List Value → Option ℕ → Value
held_in slots None = Bare
held_in slots (Some slot) = slice_index_or slots slot Bare

-- the mount of the core
abbrev pub mount_of : Opened → Mount
mount_of opened = record {
  sizes = opened.sizes;
  next = opened.next;
  lengths = λ file. slice_index opened.lengths file;
  values = λ cell. held_in opened.slots (slot_of_cell opened.sizes cell);
}

-- a run of it, and the state that the run leads to
abbrev pub IsRunOf : Opened → List Event → Type 0
IsRunOf opened run = IsRun opened.sizes (opening (mount_of opened)) run

abbrev pub state_of : Opened → List Event → Core
state_of opened run = after_run opened.sizes (opening (mount_of opened)) run
