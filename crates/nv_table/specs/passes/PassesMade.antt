-- Passes made: how passes are made, told, put back and taken in.
use Rattle.std.specs.Prelude.{◌≡◌, ℕ, List, [], ◌∷◌}
use Rattle.atomic_table.specs.Seated.{TableId}
use Rattle.nv_core.specs.state.Words.{Word}
use Rattle.nv_core.specs.steps.Ops.{Split, PutBack, Join}
use Rattle.nv_core.specs.state.Core.{newcomer}
use Rattle.nv_core.specs.steps.Events.{Event}
use Rattle.nv_table.specs.state.Opened.{state_of}
use Rattle.nv_table.specs.state.Views.{SeesAll, PassView, pass_of, values_of, still_owned, OwnsSlots}
use Rattle.nv_table.specs.passes.Seats.{parent, child, joined, PassingTells}
use Rattle.nv_table.specs.state.States.{PassState}

-- what a pass owns shows what its cells kept at its last event: no device call has come since
abbrev pub IsShownStill : PassState → Type 0
IsShownStill pass = OwnsSlots pass.view.opened.sizes (λ value. value) (values_of pass.view) (still_owned (pass_of pass.view)) pass.now

-- Pass 0 has made another pass, which has no call yet and has seen what pass 0 and those that it took in have; and each of the two has a seat.
pub record IsSplit (old new other : PassState) : Type 0 where
  pub found : ℕ
  pub middle : PassView
  pub made : PassingTells old.view Split found middle
  pub fresh : pass_of (child middle) ≡ newcomer (state_of old.view.opened made.run)
  pub parent_is : new ≡ record old { view = parent middle }
  pub child_is : other ≡ record { table = old.table; view = child middle; now = []; spare = [] }

-- a pass has put back what some cells keep, one after another, each with what it found
abbrev pub PutsBack : List (Word × ℕ) → PassView → PassView → Type 0
PutsBack [] old new = new ≡ old
PutsBack (one ∷ rest) old new = (middle : PassView) × PassingTells old (PutBack one.0) one.1 middle × PutsBack rest middle new

-- Another pass has put back all that it owned, and pass 0 has taken it in.
pub record IsTakenIn (old other new : PassState) : Type 0 where
  pub cells : List (Word × ℕ)
  pub last : PassView
  pub back : PutsBack cells other.view last
  pub found : ℕ
  pub view : PassView
  pub taken : PassingTells (joined old.view last) (Join other.view.number) found view
  pub is : new ≡ record old { view = view }
  pub behind : SeesAll other.view.number last.run view.run

-- ---- exported views

-- an exported view: of which table, and the run that it tells
pub record ExportedViewState : Type 0 where
  pub table : TableId
  pub run : List Event

-- a pass that was told one more
abbrev pub imported_by : PassState → List Event → PassState
imported_by pass run = record pass { view = record pass.view { told = run ∷ pass.view.told } }
