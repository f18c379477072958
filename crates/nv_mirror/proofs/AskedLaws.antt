-- Asked: what a pass was asked is what its call began as, and stays so.
use Rattle.std.proofs.Common.{◌≡◌, ℕ, zero, suc, ◌==◌, ◌^◌, nat_lt, Bool, true, false, if◌then◌else◌, refl, ap, ◌∙◌}
use Rattle.std.specs.Prelude.{Option, Some, None}
use Rattle.nv_plain.specs.declared.call.FileCall.{FileCall}
use Rattle.nv_core.specs.state.Passes.{Pass}
use Rattle.nv_core.specs.state.Words.{Sizes}
use Rattle.nv_core.specs.steps.Ops.{Op}
use Rattle.nv_table.specs.steps.SeatSteps.{with_call}
use Rattle.nv_table.specs.steps.StepContracts.{Postcondition}
use Rattle.nv_table.specs.state.Views.{PassView, pass_of}
use Rattle.nv_table.specs.state.States.{PassState}
use Rattle.nv_table.proofs.invariant.DrawnLaws.{calls_leave}
use Rattle.nv_op.specs.Ops.{begun_as, opened_by}
use Rattle.nv_op.specs.declared.asked.Asked.{Asked}
use Rattle.nv_mirror.specs.declared.answers.Refusal.{Refusal}
use Rattle.nv_mirror.specs.declared.front.FrontControl.{FrontControl}
use Rattle.nv_mirror.specs.declared.front.FrontControl.TheVariants as fronts
use Rattle.nv_mirror.specs.declared.front.FrontMachine.{FrontMachine}
use Rattle.nv_mirror.specs.declared.pageless.PagelessControl.{PagelessControl}
use Rattle.nv_mirror.specs.declared.pageless.PagelessControl.TheVariants as controls
use Rattle.nv_mirror.specs.declared.pageless.PagelessMachine.{PagelessMachine}
use Rattle.nv_mirror.specs.Controls.{asked_at}
use Rattle.nv_mirror.specs.Fronts as front
use Rattle.nv_mirror.specs.Fronts.{front_after_at, front_opens_at, locked, refuse, rest}
use Rattle.nv_mirror.specs.Pageless as pageless
use Rattle.nv_mirror.specs.PassSteps.{PassStep, HasTaken}
use Rattle.nv_mirror.specs.Pageless.{pageless_after, pageless_opens_at}

-- after a step
pub asked_then : (opens : Option FileCall) (op : Op) (found : ℕ) (now new : PassState) → Postcondition now opens op found new → (pass_of new.view).asked ≡ (with_call now.view.opened.sizes opens (pass_of now.view)).asked
asked_then None op found now new step =
    ap (λ (p : Pass). p.asked) step.pass
    ∙ calls_leave (λ (p : Pass). p.asked) (λ sizes work p. refl) now.view.opened.sizes step.works (pass_of now.view)
asked_then (Some call) op found now new step = ap (λ (p : Pass). p.asked) step.pass

-- and after one that begins no call, with the device calls before it
pub asked_taken : (step : PassStep) (old new : PassState) → step.opens ≡ None → HasTaken step old new → (pass_of new.view).asked ≡ (pass_of old.view).asked
asked_taken step old new none taken =
    let there = taken.before in
    asked_then step.opens step.op step.found there new taken.stepped
    ∙ ap (λ (opens : Option FileCall). (with_call there.view.opened.sizes opens (pass_of there.view)).asked) none
    ∙ ap (λ (v : PassView). (pass_of v).asked) taken.between.view

-- ---- a front

front_opened : (asked : FileCall) (m : FrontMachine) (control : FrontControl) (now : PassState)
    → (with_call now.view.opened.sizes (begun_as asked (opened_by (front_opens_at m control))) (pass_of now.view)).asked ≡ asked_at asked (front.has_begun control) now
front_opened asked m fronts.Begin now = refl
front_opened asked m fronts.TakePage now = refl
front_opened asked m fronts.LoadLength now = refl
front_opened asked m fronts.TakeSize now = refl
front_opened asked m fronts.LoadStop now = refl
front_opened asked m fronts.LoadOrder now = refl
front_opened asked m fronts.Passed now = refl
front_opened asked m (fronts.GiveBack size refusal) now = refl
front_opened asked m (fronts.Over refusal) now = refl

rest_begun : (size : Bool) (held : ℕ) (refusal : Refusal) → front.has_begun (rest size held refusal) ≡ true
rest_begun true held refusal = refl
rest_begun false zero refusal = refl
rest_begun false (suc held) refusal = refl

both_begun : (b : Bool) (one other : FrontMachine) → front.has_begun one.control ≡ true → front.has_begun other.control ≡ true → front.has_begun (if b then one else other).control ≡ true
both_begun true one other first last = first
both_begun false one other first last = last

begun_if : (b : Bool) (one other : FrontControl) → front.has_begun one ≡ true → front.has_begun other ≡ true → front.has_begun (if b then one else other) ≡ true
begun_if true one other first last = first
begun_if false one other first last = last

locked_begun : (sizes : Sizes) (m : FrontMachine) (b : Bool) → front.has_begun (locked sizes m b).control ≡ true
locked_begun sizes m true = begun_if _ fronts.LoadLength fronts.TakePage refl refl
locked_begun sizes m false = rest_begun false m.held _

front_then : (sizes : Sizes) (m : FrontMachine) (control : FrontControl) (found : ℕ) → front.IsOpen control → front.has_begun (front_after_at sizes m control found).control ≡ true
front_then sizes m fronts.Begin found runs = locked_begun sizes m (found == 0)
front_then sizes m fronts.TakePage found runs = locked_begun sizes m (found == 0)
front_then sizes m fronts.LoadLength found runs = begun_if _ fronts.TakeSize fronts.LoadStop refl refl
front_then sizes m fronts.TakeSize found runs = both_begun (found == 0) _ _ refl (rest_begun false m.held _)
front_then sizes m fronts.LoadStop found runs = both_begun (found == 0) _ _ refl (rest_begun m.sized m.held _)
front_then sizes m fronts.LoadOrder found runs = both_begun (nat_lt found (2 ^ 60)) _ _ refl (rest_begun m.sized m.held _)
front_then sizes m (fronts.GiveBack true refusal) found runs = rest_begun false m.held _
front_then sizes m (fronts.GiveBack false refusal) found runs = rest_begun false _ _
front_then sizes m fronts.Passed found runs = absurd runs
front_then sizes m (fronts.Over refusal) found runs = absurd runs

-- its step leaves what was asked, or begins it
pub front_asks : (asked : FileCall) (m next : FrontMachine) (op : Op) (found : ℕ) (now new : PassState) → front.IsOpen m.control → Postcondition now (begun_as asked (opened_by (front.front_opens m))) op found new
    → next ≡ front.front_after now.view.opened.sizes m found → asked_at asked (front.has_begun next.control) new ≡ asked_at asked (front.has_begun m.control) now
front_asks asked m next op found now new runs step is =
    ap (λ begun. asked_at asked begun new) (ap (λ (f : FrontMachine). front.has_begun f.control) is ∙ front_then now.view.opened.sizes m m.control found runs)
    ∙ asked_then _ op found now new step
    ∙ front_opened asked m m.control now

-- ---- a call without a page

pageless_opened : (asked : FileCall) (asks : Asked) (control : PagelessControl) (now : PassState)
    → (with_call now.view.opened.sizes (begun_as asked (opened_by (pageless_opens_at asks control))) (pass_of now.view)).asked ≡ asked_at asked (pageless.has_begun control) now
pageless_opened asked asks controls.Begin now = refl
pageless_opened asked asks controls.LoadOrder now = refl
pageless_opened asked asks controls.TakePlace now = refl
pageless_opened asked asks (controls.Over answer) now = refl

either_begun : (b : Bool) (one other : PagelessControl) → pageless.has_begun one ≡ true → pageless.has_begun other ≡ true → pageless.has_begun (if b then one else other) ≡ true
either_begun true one other first last = first
either_begun false one other first last = last

pageless_then : (control : PagelessControl) (found : ℕ) → pageless.has_begun (pageless_after control found) ≡ true
pageless_then controls.Begin found = either_begun (found == 0) _ _ refl refl
pageless_then controls.LoadOrder found = either_begun (nat_lt found (2 ^ 60)) _ _ refl refl
pageless_then controls.TakePlace found = refl
pageless_then (controls.Over answer) found = refl

pub pageless_asks : (asked : FileCall) (m next : PagelessMachine) (op : Op) (found : ℕ) (now new : PassState) → Postcondition now (begun_as asked (opened_by (pageless.pageless_opens m))) op found new
    → next.control ≡ pageless_after m.control found → asked_at asked (pageless.has_begun next.control) new ≡ asked_at asked (pageless.has_begun m.control) now
pageless_asks asked m next op found now new step is =
    ap (λ begun. asked_at asked begun new) (ap pageless.has_begun is ∙ pageless_then m.control found)
    ∙ asked_then _ op found now new step
    ∙ pageless_opened asked m.asked m.control now
