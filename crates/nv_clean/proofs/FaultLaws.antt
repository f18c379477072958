-- Faults: a batch is no call, so its pass keeps no fault of it, though it may set STOP.
use Rattle.std.proofs.Common.{◌≡◌, true, List, [], ◌∷◌, refl, ap, ◌∙◌}
use Rattle.std.specs.Prelude.{Option, Some, None}
use Rattle.nv_plain.specs.declared.call.FileCall.{FileCall}
use Rattle.nv_core.specs.state.Passes.{Pass}
use Rattle.nv_core.specs.state.Words.{Sizes}
use Rattle.nv_core.specs.steps.PassSteps.{faulted_after}
use Rattle.nv_table.specs.state.States.{PassState}
use Rattle.nv_table.specs.state.Views.{PassView, pass_of}
use Rattle.nv_table.specs.steps.SeatSteps.{pass_before, pass_worked, with_call}
use Rattle.nv_table.proofs.invariant.DrawnLaws.{calls_leave}
use Rattle.nv_mirror.specs.PassSteps.{PassStep, HasMade, HasTaken}
use Rattle.nv_clean.specs.OwnSteps.{AreOwn, is_own}
use Rattle.nv_clean.proofs.AnswerLaws.{own_is}

with_call_faulted : (sizes : Sizes) (opens : Option FileCall) (pass : Pass) → (with_call sizes opens pass).faulted ≡ pass.faulted
with_call_faulted sizes None pass = refl
with_call_faulted sizes (Some call) pass = refl

step_faults : (step : PassStep) (old new : PassState) (earlier : List PassStep) → HasTaken step old new → is_own earlier step.op ≡ true → (pass_of new.view).faulted ≡ (pass_of old.view).faulted
step_faults step old new earlier taken own =
    let view = taken.before.view in
    let works = taken.stepped.works in
    let op = own_is earlier step.op own in
    ap (λ (p : Pass). p.faulted) taken.stepped.pass
    ∙ ap (faulted_after (pass_before view step.opens works)) op.1
    ∙ with_call_faulted view.opened.sizes step.opens (pass_worked view.opened.sizes works (pass_of view))
    ∙ calls_leave (λ (p : Pass). p.faulted) (λ sizes work pass. refl) view.opened.sizes works (pass_of view)
    ∙ ap (λ (v : PassView). (pass_of v).faulted) taken.between.view

pub no_faults : (steps : List PassStep) (start now : PassState) → HasMade steps start now → AreOwn steps → (pass_of now.view).faulted ≡ (pass_of start.view).faulted
no_faults [] start now made own = ap (λ (p : PassState). (pass_of p.view).faulted) made
no_faults (step ∷ earlier) start now made own = step_faults step made.0 now earlier made.2 own.1 ∙ no_faults earlier start made.0 made.1 own.2
