-- Step contracts: what a step asks of a pass, and what it tells.
use Rattle.std.specs.Prelude.{◌≡◌, ℕ, List, Option}
use Rattle.nv_plain.specs.declared.call.FileCall.{FileCall}
use Rattle.nv_core.specs.steps.Ops.{Op}
use Rattle.nv_core.specs.steps.Order.{Work}
use Rattle.nv_core.specs.steps.Frames.{AgreeOn}
use Rattle.nv_core.specs.steps.PassSteps.{stepped}
use Rattle.nv_table.specs.state.Opened.{state_of}
use Rattle.nv_table.specs.state.Views.{pass_of, values_of, made_of, ended_of, still_owned, OwnsSlots}
use Rattle.nv_table.specs.steps.SeatSteps.{EnabledAt, AreDue, StepTells, act_of, pass_before, values_then}
use Rattle.nv_table.specs.state.States.{PassState}

-- what a pass owns shows what its cells keep after such a step
abbrev pub ShowsWork : PassState → Option FileCall → Op → List Work → Type 0
ShowsWork pass opens op works = OwnsSlots pass.view.opened.sizes (λ value. value) (values_then pass.view opens op works) (still_owned (pass_of pass.view)) pass.now

-- The step may come next, after some device calls on what the pass owns, and this shows what they and the step leave there.
pub record PreconditionAt (pass : PassState) (opens : Option FileCall) (op : Op) (at : ℕ) (change : ℕ → ℕ) : Type 0 where
  pub works : List Work
  pub next : EnabledAt pass.view works opens op at change
  pub holds : ShowsWork pass opens op works

-- Such device calls came, and then the step, which found this. What the cells that the pass owns keep then is what these have left. Pass 0
-- knows of the same passes as before.
pub record Postcondition (old : PassState) (opens : Option FileCall) (op : Op) (found : ℕ) (new : PassState) : Type 0 where
  pub works : List Work
  pub due : AreDue old.view.opened.sizes (values_of old.view) (pass_of old.view) works
  pub holds : ShowsWork old opens op works
  pub steps : StepTells old.view works (act_of opens op found) new.view
  pub pass : pass_of new.view ≡ stepped old.view.opened.sizes old.view.number (state_of old.view.opened steps.run).history op found (pass_before old.view opens works)
  pub kept : AgreeOn (pass_of old.view) (values_of new.view) (values_then old.view opens op works)
  pub made : old.view.number ≡ 0 → made_of new.view ≡ made_of old.view
  pub ended : old.view.number ≡ 0 → ended_of new.view ≡ ended_of old.view
  pub owns_slots : OwnsSlots new.view.opened.sizes (λ value. value) (values_of new.view) (still_owned (pass_of new.view)) new.now
  pub spare : new.spare ≡ old.spare
