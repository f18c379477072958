-- Steps: what a step with no device call before it leaves, of its pass, of what cells keep, and of its call.
use Rattle.std.proofs.Common.{◌≡◌, ◌≢◌, ℕ, true, List, [], ◌∷◌, refl, sym, ap, subst, ◌∙◌}
use Rattle.std.specs.Prelude.{None}
use Rattle.nv_plain.specs.Histories.{Answered}
use Rattle.nv_plain.specs.declared.call.FileCall.{FileCall}
use Rattle.nv_core.specs.state.Core.{values_stepped}
use Rattle.nv_core.specs.state.Passes.{Pass, times}
use Rattle.nv_core.specs.state.Words.{Sizes, Word}
use Rattle.nv_core.specs.steps.Ops.{Op}
use Rattle.nv_core.specs.steps.Order.{Values, Work}
use Rattle.nv_core.specs.steps.PassSteps.{stepped, left_after, mine_after}
use Rattle.nv_table.specs.state.Opened.{state_of}
use Rattle.nv_table.specs.state.States.{PassState}
use Rattle.nv_table.specs.state.Views.{PassView, pass_of, values_of}
use Rattle.nv_table.specs.steps.SeatSteps.{AreDue, pass_worked, values_then}
use Rattle.nv_table.specs.steps.StepContracts.{Postcondition}
use Rattle.nv_table.proofs.steps.CallLaws.{IsCallFree, stepped_there}
use Rattle.nv_mirror.specs.Controls.{MirroredControl, control_mirror, mirrored_control, with_mirrored_control, InCall}
use Rattle.nv_mirror.specs.OwnSteps.{is_own}
use Rattle.nv_mirror.specs.PassSteps.{IsBetweenSteps, HasTaken, refused_by, place_by, head_in}
use Rattle.nv_mirror.proofs.StepLaws.{opened_same}
use Rattle.nv_mirror.proofs.WorkedLaws.{worked_on, worked_told}
use Rattle.nv_cache.specs.Tries.{plain_step}

no_works : (sizes : Sizes) (values : Values) (pass : Pass) (works : List Work) → IsCallFree pass.control → AreDue sizes values pass works → works ≡ []
no_works sizes values pass [] free due = refl
no_works sizes values pass (work ∷ later) free due = absurd (free sizes values pass work due.0.due)

module _ (now before new : PassState) (op : Op) (found : ℕ) (between : IsBetweenSteps now before) (step : Postcondition before None op found new) (free : IsCallFree (pass_of now.view).control) where
  free_before : IsCallFree (pass_of before.view).control
  free_before = subst (λ (v : PassView). IsCallFree (pass_of v).control) (sym between.view) free

  none : step.works ≡ []
  none = no_works before.view.opened.sizes (values_of before.view) (pass_of before.view) step.works free_before step.due

  pub opened_there : new.view.opened ≡ now.view.opened
  opened_there = opened_same before new None op found step ∙ ap (λ (v : PassView). v.opened) between.view

  -- the history before it
  abbrev pub history_before : List Answered
  history_before = (state_of before.view.opened step.steps.run).history

  -- the pass has made this step, and nothing else
  pub pass_there : pass_of new.view ≡ stepped now.view.opened.sizes before.view.number history_before op found (pass_of now.view)
  pass_there =
      stepped_there before new None op found free_before step
      ∙ ap (λ (v : PassView). stepped v.opened.sizes before.view.number history_before op found (pass_of v)) between.view

  -- a cell among the owned cells keeps what the step makes of it
  pub kept_there : (cell : Word) → times cell (pass_of now.view).owned ≢ 0 → values_of new.view cell ≡ values_stepped now.view.opened.sizes (pass_of now.view) op (values_of now.view) cell
  kept_there cell some =
      step.kept cell (subst (λ (v : PassView). times cell (pass_of v).owned ≢ 0) (sym between.view) some)
      ∙ ap (λ works. values_then before.view None op works cell) none
      ∙ ap (λ (v : PassView). values_stepped v.opened.sizes (pass_of v) op (values_of v) cell) between.view

  pub taken_there : HasTaken (plain_step op found) now new
  taken_there = record { before = before; between = between; stepped = step; works_are = none }

  -- and its call goes on, where its machine goes on with the core from the pass as it is
  pub call_here : (call : FileCall) (is then_is : MirroredControl) (start : PassState) (called : InCall control_mirror call None is None None start now)
      → ((number : ℕ) (history : List Answered) → mirrored_control (stepped now.view.opened.sizes number history op found (with_mirrored_control is (pass_of now.view))) ≡ then_is)
      → ((pass : Pass) → left_after pass op ≡ pass.left) → refused_by now.view.opened.sizes call (head_in called.steps) [] op found ≡ None → place_by op found ≡ None → is_own call None op ≡ true
      → ((sizes : Sizes) (number : ℕ) (history : List Answered) (pass : Pass) → (stepped sizes number history op found pass).seen ≡ pass.seen) → ((pass : Pass) (number : ℕ) → mine_after number pass op ≡ pass.mine)
      → InCall control_mirror call None then_is None None start new
  call_here call is then_is start called goes leaves refuses places may seen mine =
      worked_on control_mirror call is None None start now before called between op found new step then_is None None
      (λ number history mirrors.
      ap (λ works. mirrored_control (stepped before.view.opened.sizes number history op found (pass_worked before.view.opened.sizes works (pass_of before.view)))) none
      ∙ ap (λ c. mirrored_control (stepped before.view.opened.sizes number history op found (with_mirrored_control c (pass_of before.view)))) mirrors
      ∙ ap (λ (v : PassView). mirrored_control (stepped v.opened.sizes number history op found (with_mirrored_control is (pass_of v)))) between.view
      ∙ goes number history)
      leaves (ap (λ works. refused_by now.view.opened.sizes call (head_in called.steps) works op found) none ∙ refuses) places may
      (worked_told control_mirror call is None None start now before called between op found new step seen mine)

  -- so it does where the machine goes on from any pass that it mirrors
  pub call_on : (call : FileCall) (is then_is : MirroredControl) (start : PassState) (called : InCall control_mirror call None is None None start now)
      → ((pass : Pass) (number : ℕ) (history : List Answered) → mirrored_control (stepped now.view.opened.sizes number history op found (with_mirrored_control is pass)) ≡ then_is)
      → ((pass : Pass) → left_after pass op ≡ pass.left) → refused_by now.view.opened.sizes call (head_in called.steps) [] op found ≡ None → place_by op found ≡ None → is_own call None op ≡ true
      → ((sizes : Sizes) (number : ℕ) (history : List Answered) (pass : Pass) → (stepped sizes number history op found pass).seen ≡ pass.seen) → ((pass : Pass) (number : ℕ) → mine_after number pass op ≡ pass.mine)
      → InCall control_mirror call None then_is None None start new
  call_on call is then_is start called goes = call_here call is then_is start called (goes (pass_of now.view))
