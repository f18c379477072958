-- Faults: which faults a pass keeps in mid-call.
use Rattle.std.proofs.Common.{◌≡◌, ℕ, ◌||◌, Bool, true, false, List, [], ◌∷◌, refl, sym, ap, subst, ◌∙◌}
use Rattle.std.specs.Prelude.{Option, Some, None}
use Rattle.std.proofs.lemmas.Bool.{true≢false}
use Rattle.nv_plain.specs.declared.call.FileCall.{FileCall}
use Rattle.nv_core.specs.invariant.InvariantLaws.{RunsAreSound}
use Rattle.nv_core.specs.state.Passes.{Fault, Pass}
use Rattle.nv_core.specs.state.Words.{Sizes}
use Rattle.nv_core.specs.steps.Frames.{OwnEventsTell}
use Rattle.nv_core.specs.steps.Opening.{IsMount}
use Rattle.nv_core.specs.steps.Ops.{ByCleaner, Op, Stop}
use Rattle.nv_core.specs.steps.Order.{Work}
use Rattle.nv_core.specs.steps.PassSteps.{fault_of, faulted_after}
use Rattle.nv_table.proofs.invariant.DrawnLaws.{calls_leave}
use Rattle.nv_table.specs.state.Opened.{mount_of}
use Rattle.nv_table.specs.state.States.{PassState}
use Rattle.nv_table.specs.state.Views.{PassView, pass_of}
use Rattle.nv_table.specs.steps.SeatSteps.{pass_before, pass_worked, with_call}
use Rattle.nv_mirror.proofs.StopLaws.{sets_stop}
use Rattle.nv_mirror.specs.Controls.{InCall, Mirror}
use Rattle.nv_mirror.specs.OwnSteps.{AreOwnAs, gives_back, is_own}
use Rattle.nv_mirror.specs.PassSteps.{HasMade, HasTaken, PassStep, is_fault, is_stop, refusal_in, stops_in}
use Rattle.nv_mirror.specs.declared.answers.Refusal.{Refusal}
use Rattle.nv_clean.specs.OwnSteps as batches

-- ---- one step

faults_with_call : (sizes : Sizes) (opens : Option FileCall) (pass : Pass) → (with_call sizes opens pass).faulted ≡ pass.faulted
faults_with_call sizes None pass = refl
faults_with_call sizes (Some call) pass = refl

faults_before : (view : PassView) (opens : Option FileCall) (works : List Work) → (pass_before view opens works).faulted ≡ (pass_of view).faulted
faults_before view opens works =
    faults_with_call view.opened.sizes opens (pass_worked view.opened.sizes works (pass_of view))
    ∙ calls_leave (λ (p : Pass). p.faulted) (λ sizes work pass. refl) view.opened.sizes works (pass_of view)

faults_unstopped : (pass : Pass) (op : Op) → is_stop op ≡ false → faulted_after pass op ≡ pass.faulted
faults_unstopped pass Stop is = absurd (cc)
faults_unstopped pass op is = refl

stop_is : (op : Op) → is_stop op ≡ true → op ≡ Stop
stop_is Stop is = refl
stop_is op is = absurd (cc)

-- the last fault of a pass is of its call at hand, where a step of that set STOP; else there is none more
abbrev pub FaultedBy : (stops : Bool) → (start now : PassState) → Type 0
FaultedBy true start now = (fault : Fault) × (fault.call ≡ (pass_of now.view).call) × ((pass_of now.view).faulted ≡ fault ∷ (pass_of start.view).faulted)
FaultedBy false start now = (pass_of now.view).faulted ≡ (pass_of start.view).faulted

module _ (step : PassStep) (start middle now : PassState) (taken : HasTaken step middle now) where
  abbrev there : Pass
  there = pass_before taken.before.view step.opens taken.stepped.works

  was_faulted : there.faulted ≡ (pass_of middle.view).faulted
  was_faulted = faults_before taken.before.view step.opens taken.stepped.works ∙ ap (λ (view : PassView). (pass_of view).faulted) taken.between.view

  call_stays : step.opens ≡ None → (pass_of now.view).call ≡ (pass_of middle.view).call
  call_stays none =
      ap (λ (p : Pass). p.call) taken.stepped.pass
      ∙ ap (λ opens. (with_call taken.before.view.opened.sizes opens (pass_worked taken.before.view.opened.sizes taken.stepped.works (pass_of taken.before.view))).call) none
      ∙ calls_leave (λ (p : Pass). p.call) (λ sizes work pass. refl) taken.before.view.opened.sizes taken.stepped.works (pass_of taken.before.view)
      ∙ ap (λ (view : PassView). (pass_of view).call) taken.between.view

  one_step : (stops here : Bool) → FaultedBy stops start middle → (stops ≡ true → step.opens ≡ None) → (here ≡ true → stops ≡ false) → is_stop step.op ≡ here → FaultedBy (stops || here) start now
  one_step true true was goes_on first is = absurd (true≢false (first refl))
  one_step true false was goes_on first is =
      (was.0, was.1 ∙ sym (call_stays (goes_on refl)), ap (λ (p : Pass). p.faulted) taken.stepped.pass ∙ faults_unstopped there step.op is ∙ was_faulted ∙ was.2)
  one_step false true was goes_on first is = (
    fault_of there,
    sym (ap (λ (p : Pass). p.call) taken.stepped.pass),
    ap (λ (p : Pass). p.faulted) taken.stepped.pass ∙ ap (faulted_after there) (stop_is step.op is) ∙ ap (λ faults. fault_of there ∷ faults) (was_faulted ∙ was),
  )
  one_step false false was goes_on first is = ap (λ (p : Pass). p.faulted) taken.stepped.pass ∙ faults_unstopped there step.op is ∙ was_faulted ∙ was

-- ---- the steps of a call

-- a step that sets STOP comes in a call that is not refused so far
unrefused : (call : FileCall) (refusal : Option Refusal) (op : Op) → is_stop op ≡ true → is_own call refusal op ≡ true → refusal ≡ None
unrefused call None op is own = refl
unrefused call (Some refusal) op is own = let never : gives_back call refusal Stop ≡ true = sym (ap (gives_back call refusal) (stop_is op is)) ∙ own in absurd (cc)

module _ (sizes : Sizes) (call : FileCall) (sound : RunsAreSound) (tell : OwnEventsTell) (start : PassState) (mount : IsMount (mount_of start.view.opened)) where
  steps_fault : (asked : FileCall) (steps : List PassStep) (now : PassState) → HasMade steps start now → AreOwnAs sizes asked call steps → FaultedBy (stops_in steps) start now
  steps_fault asked [] now made own = absurd own
  steps_fault asked (step ∷ []) now made own =
      one_step step start made.0 now made.2 false (is_stop step.op) (ap (λ (p : PassState). (pass_of p.view).faulted) made.1) (λ is. absurd (true≢false (sym is))) (λ is. refl) refl
  steps_fault asked (step ∷ (other ∷ earlier)) now made own =
      one_step step start made.0 now made.2 (stops_in (other ∷ earlier)) (is_stop step.op) (steps_fault asked (other ∷ earlier) made.0 made.1 own.2) (λ is. own.0)
      (λ is. sets_stop sizes call sound tell start mount asked (other ∷ earlier) made.0 made.1 own.2 ∙ ap is_fault (unrefused call (refusal_in sizes call (other ∷ earlier)) step.op is own.1)) refl

-- So of a call in mid-call, by why it is refused, if it is.
pub call_faults : {State : Type 0} (mirror : Mirror State) (call : FileCall) (opens : Option FileCall) (is : State) (refusal : Option Refusal) (place : Option ℕ) (begun now : PassState) → RunsAreSound → OwnEventsTell
    → IsMount (mount_of begun.view.opened) → InCall mirror call opens is refusal place begun now → FaultedBy (is_fault refusal) begun now
call_faults mirror call None is refusal place begun now sound tell mount c =
    let sizes = now.view.opened.sizes in
    subst (λ b. FaultedBy b begun now) (sets_stop sizes call sound tell begun mount c.asked c.steps now c.made c.own ∙ ap is_fault c.refused) (steps_fault sizes call sound tell begun mount c.asked c.steps now c.made c.own)
call_faults mirror call (Some one) is refusal place begun now sound tell mount c =
    let none : None ≡ refusal = ap (refusal_in now.view.opened.sizes call) (sym c.own.1) ∙ c.refused in
    subst (λ r. FaultedBy (is_fault r) begun now) none (ap (λ (p : PassState). (pass_of p.view).faulted) c.fresh)

-- ---- the steps of a batch, which is no call

batch_unstopped : (earlier : List PassStep) (op : Op) → batches.is_own earlier op ≡ true → is_stop op ≡ false
batch_unstopped [] (ByCleaner one) own = refl
batch_unstopped [] op own = absurd (cc)
batch_unstopped (step ∷ earlier) (ByCleaner one) own = refl
batch_unstopped (step ∷ earlier) op own = absurd (cc)

pub batch_faults : (steps : List PassStep) (start now : PassState) → HasMade steps start now → batches.AreOwn steps → (pass_of now.view).faulted ≡ (pass_of start.view).faulted
batch_faults [] start now made own = ap (λ (p : PassState). (pass_of p.view).faulted) made
batch_faults (step ∷ earlier) start now made own =
    one_step step start made.0 now made.2 false false (batch_faults earlier start made.0 made.1 own.2) (λ is. absurd (true≢false (sym is))) (λ is. refl) (batch_unstopped earlier step.op own.1)
