-- States: what contracts see of a board and of a pass.
use Rattle.std.specs.Prelude.{◌≡◌, ℕ, List, Option, Some, None, map}
use Rattle.atomic_table.specs.Seated.{TableId}
use Rattle.nv_core.specs.state.Words.{Sizes}
use Rattle.nv_core.specs.state.Values.{Value}
use Rattle.nv_core.specs.steps.Ops.{Move, Stays, Comes, Goes}
use Rattle.nv_table.specs.state.Layout.{slot_of_cell}
use Rattle.nv_table.specs.state.Opened.{Opened}
use Rattle.nv_table.specs.state.Views.{PassView}

-- a board: which table it is, and how its mount was opened
pub record BoardState : Type 0 where
  pub table : TableId
  pub opened : Opened

-- a pass: of which table, what it sees, the slots that it owns, with what they hold, and what the parts show that have no slot, which are with
-- pass 0
pub record PassState : Type 0 where
  pub table : TableId
  pub view : PassView
  pub now : List (ℕ × Value)
  pub spare : List Value

-- a pass is one of a board
pub record IsOf (board : BoardState) (pass : PassState) : Type 0 where
  pub same_table : pass.table ≡ board.table
  pub same_mount : pass.view.opened ≡ board.opened

-- what some slots show
abbrev pub shown_in : {S : Type 0} → (S → Value) → List (ℕ × S) → List (ℕ × Value)
shown_in shown slots = map (λ one. (one.0, shown one.1)) slots

-- ---- how a step moves a slot

-- no slot moves; or this one comes, or goes home
pub data Shift : Type 0 where
  Rests : Shift
  In : (slot : ℕ) → Shift
  Out : (slot : ℕ) → Shift

abbrev pub coming : Option ℕ → Shift
coming None = Rests
coming (Some slot) = In slot

abbrev pub going : Option ℕ → Shift
going None = Rests
going (Some slot) = Out slot

-- the slot of the cell that moves, if it has one
abbrev pub shift_of : Sizes → Move → Shift
shift_of sizes Stays = Rests
shift_of sizes (Comes cell) = coming (slot_of_cell sizes cell)
shift_of sizes (Goes cell) = going (slot_of_cell sizes cell)
