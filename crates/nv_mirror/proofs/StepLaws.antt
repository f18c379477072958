-- Steps: what each step of a pass leaves, and how it is told.
use Rattle.std.proofs.Common.{◌≡◌, ℕ, List, [], ◌∷◌, refl, ap}
use Rattle.std.specs.Prelude.{Option, None}
use Rattle.nv_plain.specs.declared.call.FileCall.{FileCall}
use Rattle.nv_core.specs.steps.Ops.{Op}
use Rattle.nv_table.specs.steps.StepContracts.{Postcondition}
use Rattle.nv_core.specs.state.Words.{Sizes}
use Rattle.nv_core.specs.state.Passes.{Pass}
use Rattle.nv_core.specs.steps.Order.{Values, Work}
use Rattle.nv_table.specs.steps.SeatSteps.{AreDue}
use Rattle.nv_table.specs.state.Views.{PassView, pass_of, values_of}
use Rattle.nv_table.specs.state.States.{PassState}
use Rattle.nv_table.proofs.steps.CallLaws.{IsCallFree}
use Rattle.nv_mirror.specs.PassSteps.{HasTaken, IsBetweenSteps, fault_in}

-- the mount is the same
pub opened_same : (now new : PassState) (opens : Option FileCall) (op : Op) (found : ℕ) → Postcondition now opens op found new → new.view.opened ≡ now.view.opened
opened_same now new opens op found is = ap (λ (v : PassView). v.opened) is.steps.is

-- a pass that has made no device call since its last step
pub between_self : (now : PassState) → IsBetweenSteps now now
between_self now = record { table = refl; view = refl; spare = refl }

-- a step, with the device calls that lie before it
pub taken_by : (old before new : PassState) (opens : Option FileCall) (op : Op) (found : ℕ) → IsBetweenSteps old before → (is : Postcondition before opens op found new)
    → HasTaken record { opens = opens; works = is.works; op = op; found = found } old new
taken_by old before new opens op found between is = record { before = before; between = between; stepped = is; works_are = refl }

-- no device call has failed before a step where none is due
none_failed : (sizes : Sizes) (values : Values) (pass : Pass) (works : List Work) → IsCallFree pass.control → AreDue sizes values pass works → fault_in works ≡ None
none_failed sizes values pass [] free due = refl
none_failed sizes values pass (work ∷ later) free due = absurd (free sizes values pass work due.0.due)

pub no_fault : (now new : PassState) (opens : Option FileCall) (op : Op) (found : ℕ) → IsCallFree (pass_of now.view).control → (is : Postcondition now opens op found new) → fault_in is.works ≡ None
no_fault now new opens op found free is = none_failed now.view.opened.sizes (values_of now.view) (pass_of now.view) is.works free is.due
