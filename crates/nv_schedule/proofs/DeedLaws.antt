-- Deeds: no event of an advance makes a pass, puts a cell back or takes a pass in.
use Rattle.std.proofs.Common.{◌≡◌, ◌≢◌, ℕ, Bool, true, List, [], ◌∷◌, ◌++◌, length, map, inl, inr, refl, sym, ap, subst, ◌∙◌, arith}
use Rattle.std.specs.Prelude.{Option, Some, None}
use Rattle.nv_core.proofs.steps.RunLaws.{run_parts}
use Rattle.nv_core.specs.state.Core.{Core}
use Rattle.nv_core.specs.state.Passes.{Pass}
use Rattle.nv_core.specs.state.Words.{Sizes, Word}
use Rattle.nv_core.specs.steps.Events.{Act, CallsDevice, Event, IsRun, StepEnabled, TakesStep, after_run}
use Rattle.nv_core.specs.steps.Ops.{Op, Join, PutBack, Split}
use Rattle.nv_core.specs.steps.Order.{Work}
use Rattle.nv_plain.specs.declared.call.FileCall.{FileCall}
use Rattle.nv_table.specs.state.States.{PassState}
use Rattle.nv_table.specs.state.Views.{PassView, pass_of}
use Rattle.nv_table.specs.steps.SeatSteps.{act_of, events}
use Rattle.nv_mount.specs.declared.fds.Fd.{Fd}
use Rattle.nv_mirror.specs.PassSteps.{HasTaken, PassStep}
use Rattle.nv_trace.specs.declared.trace_call.TracedCall.{TracedCall}
use Rattle.nv_clean.specs.Cleaning.{CleanState}
use Rattle.nv_schedule.specs.declared.hand.Hand.{Hand}
use Rattle.nv_schedule.specs.Callers.{IsAtBatch, IsAtCall}
use Rattle.nv_schedule.specs.Orders.{AreDeeds, is_deed, is_deed_op}
use Rattle.nv_schedule.specs.Turns.{CallerState, HasCome, HasTurned, MovesBy, events_of}
use Rattle.nv_schedule.specs.declared.caller.Work.{Work as AnyWork}
use Rattle.nv_schedule.specs.declared.caller.Work.TheVariants.{Calls, Batches}
use Rattle.nv_schedule.proofs.turns.WayLaws.{of_trying}

-- ---- a caller's pass has put nothing back

abbrev PutNothingBack : PassState → Type 0
PutNothingBack pass = (pass_of pass.view).left ≡ []

left_at_call : (fds : List Fd) (left : List TracedCall) (hand : Option Hand) (last now : PassState) → IsAtCall fds left hand last now → PutNothingBack now
left_at_call fds [] hand last now at = at.2.left
left_at_call fds (call ∷ later) None last now at = at.1.left
left_at_call fds (call ∷ later) (Some hand) last now at = (of_trying fds call.call hand at.0 now at.2).left

left_at_batch : (most : ℕ) (machine : Option CleanState) (last now : PassState) → IsAtBatch most machine last now → PutNothingBack now
left_at_batch most None last now at = at.1.left
left_at_batch most (Some machine) last now at = at.1.way.called.left

pub left_none : (fds : List Fd) (work : AnyWork) (start now : PassState) → HasCome fds work start now → PutNothingBack now
left_none fds (Calls thread) start now come = left_at_call fds thread.left thread.hand come.last now come.at
left_none fds (Batches cleaner) start now come = left_at_batch cleaner.most cleaner.machine come.last now come.at

-- ---- the events of a step

-- the last event of a run may come
last_enabled : (sizes : Sizes) (core : Core) (run : List Event) (number : ℕ) (works : List Work) (op : Op) (found : ℕ) → IsRun sizes core (run ++ events number works (TakesStep op found))
    → (before : Core) × StepEnabled sizes number before op
last_enabled sizes core run number works op found is_run =
    let behind = (run_parts sizes core run (events number works (TakesStep op found)) is_run).1 in
    let calls = map (λ work. record { by = number; act = CallsDevice work }) works in
    let last = (run_parts sizes (after_run sizes core run) calls (record { by = number; act = TakesStep op found } ∷ []) behind).1 in
    (after_run sizes (after_run sizes core run) calls, last.0.act.may)

op_is_deed : (sizes : Sizes) (before : Core) (number : ℕ) (op : Op) → number ≢ 0 → StepEnabled sizes number before op → ((cell : Word) → op ≢ PutBack cell) → is_deed_op op ≡ true
op_is_deed sizes before number Split other enabled none = absurd (other enabled)
op_is_deed sizes before number (PutBack cell) other enabled none = absurd (none cell refl)
op_is_deed sizes before number (Join joined) other enabled none = absurd (other enabled.0)
op_is_deed sizes before number op other enabled none = refl

act_is_deed : (opens : Option FileCall) (op : Op) (found : ℕ) → (opens ≡ None → is_deed_op op ≡ true) → is_deed (act_of opens op found) ≡ true
act_is_deed None op found deed = deed refl
act_is_deed (Some call) op found deed = refl

events_are_deeds : (number : ℕ) (works : List Work) (act : Act) → is_deed act ≡ true → AreDeeds (events number works act)
events_are_deeds number [] act deed = (deed, tt)
events_are_deeds number (work ∷ later) act deed = (refl, events_are_deeds number later act deed)

pub no_cell_back : (cell : Word) (left : List Word) → cell ∷ left ≡ [] → ⊥
no_cell_back cell left same = let l = ap length same in omega (arith, l)

pub step_is_deeds : (step : PassStep) (old new : PassState) → HasTaken step old new → old.view.number ≢ 0 → PutNothingBack new → AreDeeds (events_of old.view.number step)
step_is_deeds step old new taken other nothing =
    events_are_deeds old.view.number step.works (act_of step.opens step.op step.found) (act_is_deed step.opens step.op step.found by_op)
  where
    pass_is : (pass_of new.view).left ≡ Rattle.nv_core.specs.steps.PassSteps.left_after (Rattle.nv_table.specs.steps.SeatSteps.pass_before taken.before.view step.opens taken.stepped.works) step.op
    pass_is = ap (λ (p : Pass). p.left) taken.stepped.pass

    none : (cell : Word) → step.op ≢ PutBack cell
    none cell is = no_cell_back cell _ (sym (ap (Rattle.nv_core.specs.steps.PassSteps.left_after (Rattle.nv_table.specs.steps.SeatSteps.pass_before taken.before.view step.opens taken.stepped.works)) is) ∙ sym pass_is ∙ nothing)

    number_is : taken.before.view.number ≡ old.view.number
    number_is = ap (λ (v : PassView). v.number) taken.between.view

    by_op : step.opens ≡ None → is_deed_op step.op ≡ true
    by_op opens =
        let run = subst (λ o. Rattle.nv_table.specs.state.Opened.IsRunOf taken.before.view.opened (taken.stepped.steps.run ++ events taken.before.view.number taken.stepped.works (act_of o step.op step.found))) opens taken.stepped.steps.is_run in
        let enabled = last_enabled taken.before.view.opened.sizes _ taken.stepped.steps.run taken.before.view.number taken.stepped.works step.op step.found run in
        op_is_deed taken.before.view.opened.sizes enabled.0 taken.before.view.number step.op (λ zero. other (sym number_is ∙ zero)) enabled.1 none

pub turn_is_deeds : (fds : List Fd) (answered : Bool) (made : List Event) (old new : CallerState) → HasTurned fds answered made old new → (start : PassState) → HasCome fds old.work start old.pass → old.pass.view.number ≢ 0 → AreDeeds made
turn_is_deeds fds answered made old new turned start come other = by turned.moved
  where
    by : {allowed : Type 0} → MovesBy allowed made old.pass new.pass → AreDeeds made
    by (inl still) = subst AreDeeds (sym still.1) tt
    by (inr one) = subst AreDeeds (sym one.2) (step_is_deeds one.0 old.pass new.pass one.1 other (left_none fds new.work start new.pass (turned.come start come)))
