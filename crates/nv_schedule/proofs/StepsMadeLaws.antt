-- Steps made: those that a pass has made since its call began are what its events tell.
use Rattle.std.proofs.Common.{◌≡◌, ℕ, ◌<◌, List, [], ◌∷◌, ◌++◌, length, map, refl, sym, ap, subst, ◌∙◌, arith, length-append}
use Rattle.std.specs.Prelude.{Option, Some, None}
use Rattle.std.proofs.lemmas.List.{append-nil, append_assoc}
use Rattle.nv_plain.specs.declared.call.FileCall.{FileCall}
use Rattle.nv_core.specs.state.Passes.{Idle}
use Rattle.nv_core.specs.state.Words.{Sizes}
use Rattle.nv_core.specs.steps.Events.{Act, BeginsCall, CallsDevice, Event, TakesStep, own}
use Rattle.nv_core.specs.steps.Ops.{Op}
use Rattle.nv_core.specs.steps.Order.{Work}
use Rattle.nv_table.proofs.state.ViewLaws.{own_both}
use Rattle.nv_table.specs.state.States.{PassState}
use Rattle.nv_table.specs.state.Views.{PassView, pass_of, values_of}
use Rattle.nv_table.specs.steps.SeatSteps.{act_of, events}
use Rattle.nv_mirror.specs.OwnSteps.{AreOwnAs}
use Rattle.nv_mirror.specs.PassSteps.{HasMade, HasTaken, PassStep}
use Rattle.nv_schedule.specs.Acting.{GoesOnBy}
use Rattle.nv_schedule.specs.StepsMade.{StepsMade, made_by, made_in, made_on}
use Rattle.nv_schedule.specs.Turns.{events_of}
use Rattle.nv_schedule.proofs.BehindLaws.{made_one}
use Rattle.nv_schedule.proofs.FaultLaws.{none_comes, step_due}
use Rattle.nv_schedule.proofs.GrownLaws.{taken_grown}

-- ---- the events of a step

made_both : (xs ys : List Event) (made : StepsMade) → made_by (xs ++ ys) made ≡ made_by ys (made_by xs made)
made_both [] ys made = refl
made_both (x ∷ xs) ys made = made_both xs ys (made_on x.act made)

abbrev so_far : List PassStep → List Work → StepsMade
so_far steps works = record { steps = steps; works = works }

calls_made : (number : ℕ) (works : List Work) (more : List Event) (steps : List PassStep) (before : List Work)
    → made_by (map (λ work. record { by = number; act = CallsDevice work }) works ++ more) (so_far steps before) ≡ made_by more (so_far steps (before ++ works))
calls_made number [] more steps before = ap (λ works. made_by more (so_far steps works)) (sym (append-nil before))
calls_made number (work ∷ later) more steps before =
    calls_made number later more steps (before ++ work ∷ []) ∙ ap (λ works. made_by more (so_far steps works)) (append_assoc before (work ∷ []) later)

step_on : (number : ℕ) (works : List Work) (op : Op) (found : ℕ) (steps : List PassStep)
    → made_by (events number works (TakesStep op found)) (so_far steps []) ≡ so_far (record { opens = None; works = works; op = op; found = found } ∷ steps) []
step_on number works op found steps = calls_made number works (record { by = number; act = TakesStep op found } ∷ []) steps []

-- ---- those of a pass

abbrev made_of : PassState → StepsMade
made_of pass = made_in pass.view.number pass.view.run

pub taken_number : (step : PassStep) (old new : PassState) → HasTaken step old new → new.view.number ≡ old.view.number
taken_number step old new taken = (made_one step old new taken).number

pub taken_own : (step : PassStep) (old new : PassState) → HasTaken step old new → own old.view.number new.view.run ≡ own old.view.number old.view.run ++ events_of old.view.number step
taken_own step old new taken =
    let one = made_one step old new taken in
    ap (own old.view.number) one.is ∙ own_both old.view.number one.run (events_of old.view.number step) ∙ ap (λ l. l ++ own old.view.number (events_of old.view.number step)) one.before
    ∙ ap (λ l. own old.view.number old.view.run ++ l) one.all

taken_made : (step : PassStep) (old new : PassState) → HasTaken step old new → made_of new ≡ made_by (events_of old.view.number step) (made_of old)
taken_made step old new taken =
    ap (λ n. made_in n new.view.run) (taken_number step old new taken)
    ∙ ap (λ l. made_by l (so_far [] [])) (taken_own step old new taken)
    ∙ made_both (own old.view.number old.view.run) (events_of old.view.number step) (so_far [] [])

pub made_number : (steps : List PassStep) (start now : PassState) → HasMade steps start now → now.view.number ≡ start.view.number
made_number [] start now same = ap (λ (p : PassState). p.view.number) same
made_number (step ∷ earlier) start now made = taken_number step made.0 now made.2 ∙ made_number earlier start made.0 made.1

-- an idle pass makes no device call
idle_makes_none : (step : PassStep) (old new : PassState) → HasTaken step old new → (pass_of old.view).control ≡ Idle → step.works ≡ []
idle_makes_none step old new taken idle =
    none_comes old.view.opened.sizes step.works (values_of old.view) (pass_of old.view) Idle idle (λ kept work due. due) (step_due step old new taken)

first_on : (number : ℕ) (opens : Option FileCall) (works : List Work) (op : Op) (found : ℕ) (call : FileCall) (before : StepsMade) → opens ≡ Some call → works ≡ []
    → made_by (events number works (act_of opens op found)) before ≡ so_far (record { opens = opens; works = works; op = op; found = found } ∷ []) []
first_on number opens works op found call before begins none =
    subst (λ (o : Option FileCall). made_by (events number works (act_of o op found)) before ≡ so_far (record { opens = o; works = works; op = op; found = found } ∷ []) []) (sym begins)
    (subst (λ (w : List Work). made_by (events number w (BeginsCall call op found)) before ≡ so_far (record { opens = Some call; works = w; op = op; found = found } ∷ []) []) (sym none) refl)

later_on : (number : ℕ) (opens : Option FileCall) (works : List Work) (op : Op) (found : ℕ) (steps : List PassStep) → opens ≡ None
    → made_by (events number works (act_of opens op found)) (so_far steps []) ≡ so_far (record { opens = opens; works = works; op = op; found = found } ∷ steps) []
later_on number opens works op found steps begins =
    subst (λ (o : Option FileCall). made_by (events number works (act_of o op found)) (so_far steps []) ≡ so_far (record { opens = o; works = works; op = op; found = found } ∷ steps) []) (sym begins)
    (step_on number works op found steps)

-- Those of a call since its pass was idle are what the run tells.
pub made_are : (sizes : Sizes) (asked call : FileCall) (steps : List PassStep) (start now : PassState) → HasMade steps start now → AreOwnAs sizes asked call steps → (pass_of start.view).control ≡ Idle → made_in now.view.number now.view.run ≡ so_far steps []
made_are sizes asked call [] start now made own_steps idle = absurd own_steps
made_are sizes asked call (step ∷ []) start now made own_steps idle =
    let at_idle : (pass_of made.0.view).control ≡ Idle = ap (λ (p : PassState). (pass_of p.view).control) made.1 ∙ idle in
    taken_made step made.0 now made.2
    ∙ first_on made.0.view.number step.opens step.works step.op step.found asked (made_of made.0) own_steps.0 (idle_makes_none step made.0 now made.2 at_idle)
made_are sizes asked call (step ∷ (other ∷ earlier)) start now made own_steps idle =
    taken_made step made.0 now made.2
    ∙ ap (made_by (events_of made.0.view.number step)) (made_are sizes asked call (other ∷ earlier) start made.0 made.1 own_steps.2 idle)
    ∙ later_on made.0.view.number step.opens step.works step.op step.found (other ∷ earlier) own_steps.0

-- ---- the run goes on by a step

pub goes_on_by : (step : PassStep) (old new : PassState) → HasTaken step old new → GoesOnBy old.view.number (events_of old.view.number step) old.view.run new.view.run
goes_on_by step old new taken = subst (λ (v : PassView). GoesOnBy v.number (events_of v.number step) v.run new.view.run) taken.between.view (go taken.stepped.works taken.works_are)
  where
    go : (works : List Work) → taken.stepped.works ≡ step.works → GoesOnBy taken.before.view.number (events_of taken.before.view.number step) taken.before.view.run new.view.run
    go works is =
        let tells = taken.stepped.steps in
        record {
          others = tells.knew.all.rest;
          then_is =
              ap (λ (v : PassView). v.run) tells.is
              ∙ ap (λ w. tells.run ++ events taken.before.view.number w (act_of step.opens step.op step.found)) is
              ∙ ap (λ r. r ++ events_of taken.before.view.number step) tells.knew.all.goes_on;
          quiet = tells.knew.all.quiet;
        }

-- ---- and no longer what it was

pub some_events : (number : ℕ) (works : List Work) (act : Act) → 0 < length (events number works act)
some_events number [] act = omega arith
some_events number (work ∷ later) act = let more = some_events number later act in omega (arith, more)

pub taken_longer : (step : PassStep) (old new : PassState) → HasTaken step old new → length old.view.run < length new.view.run
taken_longer step old new taken =
    let one = made_one step old new taken in
    let grown = taken_grown step old new taken in
    let all = ap length grown.run ∙ length-append old.view.run grown.more in
    let whole = ap length one.is ∙ length-append one.run (events_of old.view.number step) in
    let mine = ap length (taken_own step old new taken) ∙ length-append (own old.view.number old.view.run) (events_of old.view.number step) in
    let some = some_events old.view.number step.works (act_of step.opens step.op step.found) in
    some_more grown.more grown.run
  where
    nothing_more : new.view.run ≡ old.view.run ++ [] → length (own old.view.number new.view.run) ≡ length (own old.view.number old.view.run)
    nothing_more is = ap (λ l. length (own old.view.number l)) (is ∙ append-nil old.view.run)

    some_more : (more : List Event) → new.view.run ≡ old.view.run ++ more → length old.view.run < length new.view.run
    some_more [] is =
        let same = nothing_more is in
        let mine = ap length (taken_own step old new taken) ∙ length-append (own old.view.number old.view.run) (events_of old.view.number step) in
        let some = some_events old.view.number step.works (act_of step.opens step.op step.found) in
        absurd (omega (arith, same, mine, some))
    some_more (event ∷ more) is = let all = ap length is ∙ length-append old.view.run (event ∷ more) in omega (arith, all)

-- ---- which step was the last

last_same : {T : Type 0} (xs ys : List T) (x y : T) → xs ++ x ∷ [] ≡ ys ++ y ∷ [] → x ≡ y
last_same [] [] x y same = cc
last_same [] (z ∷ ys) x y same = let few = ap length same in let more = length-append ys (y ∷ []) in absurd (omega (arith, few, more))
last_same (z ∷ xs) [] x y same = let few = ap length same in let more = length-append xs (x ∷ []) in absurd (omega (arith, few, more))
last_same (z ∷ xs) (w ∷ ys) x y same = last_same xs ys x y (cc)

abbrev calls_of : (number : ℕ) → List Work → List Event
calls_of number works = map (λ work. record { by = number; act = CallsDevice work }) works

pub act_same : (number : ℕ) (xs ys : List Event) (works others : List Work) (act other : Act) → xs ++ events number works act ≡ ys ++ events number others other → act ≡ other
act_same number xs ys works others act other same =
    ap (λ (e : Event). e.act)
    (last_same (xs ++ calls_of number works) (ys ++ calls_of number others) (record { by = number; act = act }) (record { by = number; act = other })
    (append_assoc xs (calls_of number works) (record { by = number; act = act } ∷ []) ∙ same ∙ sym (append_assoc ys (calls_of number others) (record { by = number; act = other } ∷ []))))

-- the same step begins the same call
pub record IsSameStep (step other : PassStep) : Type 0 where
  pub opens : step.opens ≡ other.opens
  pub op : step.op ≡ other.op

same_act : (opens others : Option FileCall) (op other : Op) (found found_too : ℕ) → act_of opens op found ≡ act_of others other found_too → (opens ≡ others) × (op ≡ other)
same_act None None op other found found_too same = (refl, cc)
same_act None (Some call) op other found found_too same = absurd (cc)
same_act (Some call) None op other found found_too same = absurd (cc)
same_act (Some call) (Some called) op other found found_too same = (cc, cc)

pub same_step : (step other : PassStep) (old middle new : PassState) → middle.view.number ≡ old.view.number → HasTaken step old new → HasTaken other middle new → IsSameStep step other
same_step step other old middle new same taken taken_too =
    let one = taken_own step old new taken in
    let two = subst (λ n. own n new.view.run ≡ own n middle.view.run ++ events_of n other) same (taken_own other middle new taken_too) in
    let both =
    same_act step.opens other.opens step.op other.op step.found other.found
    (act_same old.view.number (own old.view.number old.view.run) (own old.view.number middle.view.run) step.works other.works (act_of step.opens step.op step.found) (act_of other.opens other.op other.found) (sym one ∙ two)) in
    record { opens = both.0; op = both.1 }
