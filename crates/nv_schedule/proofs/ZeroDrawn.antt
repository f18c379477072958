-- Zero drawn: pass 0 draws nothing by making other passes and taking them in.
use Rattle.std.proofs.Common.{◌≡◌, ◌≢◌, ℕ, ◌+◌, Bool, true, false, if◌then◌else◌, List, [], ◌∷◌, length, refl, sym, ap, subst, ◌∙◌, arith, eq-eqb, ne_eqb, inl, inr}
use Rattle.std.proofs.lemmas.Bool.{cases_eq}
use Rattle.nv_core.specs.state.Core.{Core, after_step, newcomer}
use Rattle.nv_core.specs.state.Words.{Sizes}
use Rattle.nv_core.specs.steps.Events.{Act, BeginsCall, TakesStep, CallsDevice, Event, IsRun, after_act, after_event, after_run, own}
use Rattle.nv_core.specs.steps.Frames.{EventsLeaveOthers}
use Rattle.nv_core.specs.steps.Ops.{Op, Split, PutBack, Join}
use Rattle.nv_core.specs.steps.Order.{Values}
use Rattle.nv_core.specs.steps.PassSteps.{stepped}
use Rattle.nv_core.specs.invariant.Draws.{drawn_of}
use Rattle.nv_core.specs.invariant.InvariantLaws.{EventsKeepSound}
use Rattle.nv_core.specs.invariant.Sound.{Sound}
use Rattle.nv_core.proofs.state.Changes.{number_else, number_here}
use Rattle.nv_schedule.specs.Orders.{deeds, is_deed, is_deed_op}

-- such a step leaves what it has drawn
step_same : (sizes : Sizes) (core : Core) (op : Op) (found : ℕ) → is_deed_op op ≡ false → drawn_of sizes ((after_step sizes 0 op found core).passes 0) ≡ drawn_of sizes (core.passes 0)
step_same sizes core Split found none = ap (drawn_of sizes) (number_else core.passes (core.made + 1) (newcomer core) 0 (λ is. absurd (omega (arith, is))))
step_same sizes core (PutBack cell) found none = ap (drawn_of sizes) (number_here core.passes 0 (stepped sizes 0 core.history (PutBack cell) found (core.passes 0)))
step_same sizes core (Join number) found none = ap (drawn_of sizes) (number_here core.passes 0 (stepped sizes 0 core.history (Join number) found (core.passes 0)))
step_same sizes core op found none = absurd (cc)

act_same : (sizes : Sizes) (core : Core) (act : Act) → is_deed act ≡ false → drawn_of sizes ((after_act sizes 0 act core).passes 0) ≡ drawn_of sizes (core.passes 0)
act_same sizes core (TakesStep op found) none = step_same sizes core op found none
act_same sizes core (BeginsCall call op found) none = absurd (cc)
act_same sizes core (CallsDevice work) none = absurd (cc)

own_is : (event : Event) (later : List Event) → event.by ≡ 0 → own 0 (event ∷ later) ≡ event ∷ own 0 later
own_is event later is = ap (λ (b : Bool). if b then event ∷ own 0 later else own 0 later) (eq-eqb event.by 0 is)

own_else : (event : Event) (later : List Event) → event.by ≢ 0 → own 0 (event ∷ later) ≡ own 0 later
own_else event later ne = ap (λ (b : Bool). if b then event ∷ own 0 later else own 0 later) (ne_eqb event.by 0 ne)

no_deed : (event : Event) (later : List Event) → deeds (event ∷ later) ≡ [] → (is_deed event.act ≡ false) × (deeds later ≡ [])
no_deed event later none = by (is_deed event.act) refl none
  where
    by : (b : Bool) → is_deed event.act ≡ b → (if b then event ∷ deeds later else deeds later) ≡ [] → (is_deed event.act ≡ false) × (deeds later ≡ [])
    by true is none = absurd (let long = ap length none in omega (arith, long))
    by false is none = (is, none)

pub zero_same : EventsLeaveOthers → EventsKeepSound → (sizes : Sizes) (first : Values) (core : Core) (run : List Event) → Sound sizes first core → IsRun sizes core run → deeds (own 0 run) ≡ []
    → drawn_of sizes ((after_run sizes core run).passes 0) ≡ drawn_of sizes (core.passes 0)
zero_same leave keep sizes first core [] sound is none = refl
zero_same leave keep sizes first core (event ∷ later) sound is none = elim (cases_eq event.by 0) [
  | inl by_zero ↦ (
      let parts = no_deed event (own 0 later) (subst (λ l. deeds l ≡ []) (own_is event later by_zero) none) in
      let rest = zero_same leave keep sizes first (after_event sizes event core) later (keep sizes first core event sound is.0) is.1 parts.1 in
      rest ∙ subst (λ n. drawn_of sizes ((after_act sizes n event.act core).passes 0) ≡ drawn_of sizes (core.passes 0)) (sym by_zero) (act_same sizes core event.act parts.0)
      )
  | inr other ↦ (
      let rest = zero_same leave keep sizes first (after_event sizes event core) later (keep sizes first core event sound is.0) is.1 (subst (λ l. deeds l ≡ []) (own_else event later other) none) in
      let alone = leave sizes first core event sound is.0 in
      rest ∙ ap (drawn_of sizes) (alone.passes 0 (λ is_by. other (sym is_by)) (omega arith))
      )
]
