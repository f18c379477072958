-- Worked: a step with device calls before it.
use Rattle.std.proofs.Common.{◌≡◌, ℕ, true, List, ◌∷◌, inl, refl, sym, ap, subst, ◌∙◌}
use Rattle.std.specs.Prelude.{Option, Some, None}
use Rattle.nv_plain.specs.Histories.{Answered}
use Rattle.nv_plain.specs.declared.call.FileCall.{FileCall}
use Rattle.nv_core.specs.steps.Ops.{Op}
use Rattle.nv_core.specs.steps.Order.{Work, next_step}
use Rattle.nv_core.specs.state.Passes.{Pass}
use Rattle.nv_core.specs.steps.PassSteps.{stepped, left_after, mine_after}
use Rattle.nv_core.specs.state.Words.{Sizes}
use Rattle.nv_table.specs.steps.SeatSteps.{AreDue, pass_worked, values_before, values_then}
use Rattle.nv_table.specs.invariant.Idle.{IsLater}
use Rattle.nv_table.specs.state.Opened.{Opened, state_of}
use Rattle.nv_table.specs.steps.StepContracts.{Postcondition}
use Rattle.nv_table.specs.state.Views.{PassView, OwnsSlots, pass_of, values_of, made_of, still_owned}
use Rattle.nv_table.specs.state.States.{PassState}
use Rattle.nv_table.specs.steps.CallSteps.{Precondition}
use Rattle.nv_table.proofs.steps.CallLaws.{later_by, later_on}
use Rattle.nv_table.proofs.invariant.DrawnLaws.{calls_leave}
use Rattle.nv_mirror.specs.OwnSteps.{is_own, AreOwnAs}
use Rattle.nv_mirror.specs.PassSteps.{IsBetweenSteps, head_in, refusal_in, refused_by, place_by, either_of}
use Rattle.nv_mirror.specs.declared.answers.Refusal.{Refusal}
use Rattle.nv_mirror.proofs.OwnLaws.{own_on}
use Rattle.nv_mirror.proofs.StepLaws.{taken_by, opened_same}
use Rattle.nv_mirror.specs.Controls.{Mirror, Told, InCall}
use Rattle.nv_mirror.proofs.ControlLaws.{told_same}

module _ {State : Type 0} (mirror : Mirror State) (call : FileCall) (is : State) (refusal : Option Refusal) (place : Option ℕ) (start now before : PassState) (called : InCall mirror call None is refusal place start now) (between : IsBetweenSteps now before) where
  -- A step is due where it is next after the device calls, and what the pass owns shows what they and the step leave.
  pub worked_due : (works : List Work) (core_op : Op) → AreDue now.view.opened.sizes (values_of now.view) (pass_of now.view) works
      → next_step now.view.opened.sizes (values_before now.view works) (pass_worked now.view.opened.sizes works (pass_of now.view)) ≡ Some core_op
      → OwnsSlots now.view.opened.sizes (λ value. value) (values_then now.view None core_op works) (still_owned (pass_of now.view)) before.now
      → (due : Precondition before None core_op) × (due.works ≡ works)
  worked_due works core_op due next owns_slots =
      subst (λ (view : PassView). (due : Precondition (record before { view = view }) None core_op) × (due.works ≡ works)) (sym between.view)
      (record { works = works; due = due; begins = tt; may = inl next; staying = called.left; holds = owns_slots }, refl)

  module _ (core_op : Op) (found : ℕ) (new : PassState) (step : Postcondition before None core_op found new) where
    abbrev worked_pass : Pass
    worked_pass = pass_worked before.view.opened.sizes step.works (pass_of before.view)

    -- the machine goes on with the core
    pub worked_on : (then_is : State) (refusal_then : Option Refusal) (place_then : Option ℕ)
        → ((number : ℕ) (history : List Answered) → mirror.of (pass_of before.view) ≡ is → mirror.of (stepped before.view.opened.sizes number history core_op found (pass_worked before.view.opened.sizes step.works (pass_of before.view))) ≡ then_is)
        → ((pass : Pass) → left_after pass core_op ≡ pass.left) → either_of refusal (refused_by now.view.opened.sizes call (head_in called.steps) step.works core_op found) ≡ refusal_then → either_of place (place_by core_op found) ≡ place_then
        → is_own call refusal core_op ≡ true → Told called.asked place_then start new → InCall mirror call None then_is refusal_then place_then start new
    worked_on then_is refusal_then place_then goes leaves refuses places may told_then = record {
      idle = called.idle;
      plain = called.plain;
      asked = called.asked;
      makes = called.makes;
      asks = ap (λ (p : Pass). p.asked) step.pass
          ∙ calls_leave (λ (p : Pass). p.asked) (λ sizes work p. refl) before.view.opened.sizes step.works (pass_of before.view)
          ∙ ap (λ (v : PassView). (pass_of v).asked) between.view ∙ called.asks;
      steps = record { opens = None; works = step.works; op = core_op; found = found } ∷ called.steps;
      made = (now, called.made, taken_by now before new None core_op found between step);
      own = subst (λ (o : Opened). AreOwnAs o.sizes called.asked call (record { opens = None; works = step.works; op = core_op; found = found } ∷ called.steps)) (sym opened)
          (own_on now.view.opened.sizes called.asked call (record { opens = None; works = step.works; op = core_op; found = found }) called.steps refusal called.own called.refused refl may);
      refused = subst (λ (o : Opened). refusal_in o.sizes call (record { opens = None; works = step.works; op = core_op; found = found } ∷ called.steps) ≡ refusal_then) (sym opened)
          (ap (λ r. either_of r (refused_by now.view.opened.sizes call (head_in called.steps) step.works core_op found)) called.refused ∙ refuses);
      placed = ap (λ p. either_of p (place_by core_op found)) called.placed ∙ places;
      later = later_on start now new called.later (later_on now before new later_between (later_by before new None core_op found step));
      spare = step.spare ∙ between.spare ∙ called.spare;
      mount = opened ∙ called.mount;
      still = step.owns_slots;
      left = ap (λ (p : Pass). p.left) step.pass ∙ leaves worked_pass ∙ calls_leave (λ (p : Pass). p.left) (λ sizes work p. refl) before.view.opened.sizes step.works (pass_of before.view)
          ∙ ap (λ (v : PassView). (pass_of v).left) between.view ∙ called.left;
      fresh = tt;
      told = told_then;
      mirrors = ap mirror.of step.pass
          ∙ goes before.view.number (state_of before.view.opened step.steps.run).history (ap (λ (v : PassView). mirror.of (pass_of v)) between.view ∙ called.mirrors);
    }
      where
        opened : new.view.opened ≡ now.view.opened
        opened = opened_same before new None core_op found step ∙ ap (λ (v : PassView). v.opened) between.view

        later_between : IsLater now before
        later_between = record {
          number = ap (λ (v : PassView). v.number) between.view;
          ended = ap (λ (v : PassView). v.ended) between.view;
          made = λ zero. ap (λ (v : PassView). made_of v) between.view;
        }

    -- what is told stays, where the step takes no place
    pub worked_told : ((sizes : Sizes) (number : ℕ) (history : List Answered) (pass : Pass) → (stepped sizes number history core_op found pass).seen ≡ pass.seen)
        → ((pass : Pass) (number : ℕ) → mine_after number pass core_op ≡ pass.mine) → Told called.asked place start new
    worked_told seen mine =
        told_same called.asked place start now new
        (ap (λ (p : Pass). p.seen) step.pass ∙ seen before.view.opened.sizes before.view.number (state_of before.view.opened step.steps.run).history worked_pass
        ∙ calls_leave (λ (p : Pass). p.seen) (λ sizes work p. refl) before.view.opened.sizes step.works (pass_of before.view) ∙ ap (λ (v : PassView). (pass_of v).seen) between.view)
        (ap (λ (p : Pass). p.mine) step.pass ∙ mine worked_pass before.view.number
        ∙ calls_leave (λ (p : Pass). p.mine) (λ sizes work p. refl) before.view.opened.sizes step.works (pass_of before.view) ∙ ap (λ (v : PassView). (pass_of v).mine) between.view)
        called.told
