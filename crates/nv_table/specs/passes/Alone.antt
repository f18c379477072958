-- Alone: pass 0 while no other pass is out.
use Rattle.std.specs.Prelude.{◌≡◌, ℕ, length, Option, None}
use Rattle.nv_plain.specs.declared.call.FileCall.{FileCall}
use Rattle.nv_core.specs.state.Words.{Word, HEAD}
use Rattle.nv_core.specs.steps.Ops.{Op, Load, Take, Draw}
use Rattle.nv_core.specs.steps.Opening.{IsMount}
use Rattle.nv_table.specs.invariant.Idle.{IsIdle, IsLater, TakenHoldNothing}
use Rattle.nv_table.specs.state.Opened.{mount_of, state_of}
use Rattle.nv_table.specs.invariant.BetweenSteps.{KnowsTaken}
use Rattle.nv_table.specs.steps.StepContracts.{Postcondition}
use Rattle.nv_table.specs.state.Views.{PassView, pass_of, made_of}
use Rattle.nv_table.specs.passes.PassesMade.{IsSplit, IsTakenIn}
use Rattle.nv_table.specs.state.States.{PassState}

-- Pass 0 has taken in all that it made, and none of these holds a cell.
pub record IsAlone (view : PassView) : Type 0 where
  pub zero : view.number ≡ 0
  pub all : length view.ended ≡ made_of view
  pub free : TakenHoldNothing view

-- HEAD is as it saw it last.
abbrev pub KnowsHead : PassView → Type 0
KnowsHead view = (state_of view.opened view.run).words HEAD ≡ (pass_of view).head

-- ---- laws, of a step of its own

-- Nothing has come between it and the step before.
abbrev pub NothingComesBetween : Type 0
NothingComesBetween =
    (old new : PassState) (opens : Option FileCall) (op : Op) (found : ℕ) → IsMount (mount_of old.view.opened) → KnowsTaken old.view → IsAlone old.view
    → (stepped : Postcondition old opens op found new) → stepped.steps.run ≡ old.view.run

-- It is still alone then.
abbrev pub StaysAlone : Type 0
StaysAlone =
    (old new : PassState) (opens : Option FileCall) (op : Op) (found : ℕ) → IsMount (mount_of old.view.opened) → KnowsTaken old.view → IsAlone old.view
    → Postcondition old opens op found new → KnowsTaken new.view × IsAlone new.view

-- A lock that its call takes is found open.
abbrev pub NoLockIsHeld : Type 0
NoLockIsHeld =
    (old new : PassState) (opens : Option FileCall) (cell : Word) (found : ℕ) → IsMount (mount_of old.view.opened) → KnowsTaken old.view → IsAlone old.view
    → Postcondition old opens (Take cell) found new → found ≡ 0

-- A load of HEAD tells it, be the pass alone or not; while it is alone it stays so; and then a draw finds HEAD as the pass saw it last.
abbrev pub LoadsTellHead : Type 0
LoadsTellHead = (old new : PassState) (opens : Option FileCall) (found : ℕ) → IsMount (mount_of old.view.opened) → Postcondition old opens (Load HEAD) found new → KnowsHead new.view

abbrev pub HeadStaysKnown : Type 0
HeadStaysKnown =
    (old new : PassState) (opens : Option FileCall) (op : Op) (found : ℕ) → IsMount (mount_of old.view.opened) → KnowsTaken old.view → IsAlone old.view
    → KnowsHead old.view → Postcondition old opens op found new → KnowsHead new.view

abbrev pub NoDrawIsLost : Type 0
NoDrawIsLost =
    (old new : PassState) (found : ℕ) → IsMount (mount_of old.view.opened) → KnowsTaken old.view → IsAlone old.view → KnowsHead old.view
    → Postcondition old None Draw found new → found ≡ (pass_of old.view).head

-- ---- laws, of its calls and of another pass

-- Between calls of its own it is alone as before.
abbrev pub CallsLeaveAlone : Type 0
CallsLeaveAlone = (old new : PassState) → IsLater old new → IsIdle new → IsAlone old.view → IsAlone new.view

-- It is alone again where it has made one other pass, has made calls of its own beside that, and has taken it in.
abbrev pub JoinsLeaveAlone : Type 0
JoinsLeaveAlone =
    (old split kept new other back : PassState) → IsAlone old.view → IsSplit old split other → IsLater split kept → IsTakenIn kept back new → IsIdle new → IsAlone new.view
