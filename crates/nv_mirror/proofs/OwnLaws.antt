-- Own steps: what one more step adds to those of a call, and what those of a read change.
use Rattle.std.proofs.Common.{◌≡◌, ℕ, Bool, true, false, ◌||◌, List, [], ◌∷◌, refl, sym, ap, subst, ◌∙◌}
use Rattle.std.specs.Prelude.{Option, Some, None}
use Rattle.nv_plain.specs.declared.call.FileCall.{FileCall}
use Rattle.nv_plain.specs.declared.call.FileCall.TheVariants.{Read}
use Rattle.nv_core.specs.state.Words.{Sizes}
use Rattle.nv_core.specs.steps.Ops.{Op, Give, Return, Place, Stop}
use Rattle.nv_mirror.specs.declared.answers.Refusal.{Refusal}
use Rattle.nv_mirror.specs.declared.answers.Refusal.TheVariants.{RegionFault}
use Rattle.nv_mirror.specs.OwnSteps.{is_passing, gives_back, is_own, AreOwnAs, AreOwnSoFar, ArePassing}
use Rattle.nv_mirror.specs.PassSteps.{PassStep, refusal_in, place_in, place_by, stops_in, is_stop, either_of}

-- one more
pub own_on : (sizes : Sizes) (asked call : FileCall) (step : PassStep) (steps : List PassStep) (refusal : Option Refusal) → AreOwnAs sizes asked call steps → refusal_in sizes call steps ≡ refusal
    → step.opens ≡ None → is_own call refusal step.op ≡ true → AreOwnAs sizes asked call (step ∷ steps)
own_on sizes asked call step [] refusal own is none may = absurd own
own_on sizes asked call step (other ∷ earlier) refusal own is none may = (none, ap (λ r. is_own call r step.op) is ∙ may, own)

-- or the first one
pub own_so_far_on : (opens : Option FileCall) (sizes : Sizes) (asked call : FileCall) (step : PassStep) (steps : List PassStep) (refusal : Option Refusal) → AreOwnSoFar opens sizes asked call steps
    → refusal_in sizes call steps ≡ refusal → step.opens ≡ opens → is_own call refusal step.op ≡ true → AreOwnAs sizes asked call (step ∷ steps)
own_so_far_on (Some begun) sizes asked call step steps refusal own is opens may =
    let none : None ≡ refusal = ap (refusal_in sizes call) (sym own.1) ∙ is in
    subst (λ earlier. AreOwnAs sizes asked call (step ∷ earlier)) (sym own.1) (opens ∙ ap Some own.0, ap (λ r. is_own call r step.op) none ∙ may)
own_so_far_on None sizes asked call step steps refusal own is opens may = own_on sizes asked call step steps refusal own is opens may

-- ---- what those of a read change

either_none_first : {T : Type 0} (one other : Option T) → either_of one other ≡ None → one ≡ None
either_none_first (Some one) other none = absurd (cc)
either_none_first None other none = refl

either_none_last : {T : Type 0} (one other : Option T) → either_of one other ≡ None → other ≡ None
either_none_last (Some one) other none = absurd (cc)
either_none_last None other none = none

or_false_first : (one other : Bool) → one || other ≡ false → one ≡ false
or_false_first true other none = absurd (cc)
or_false_first false other none = refl

or_false_last : (one other : Bool) → one || other ≡ false → other ≡ false
or_false_last true other none = absurd (cc)
or_false_last false other none = none

module _ (file at len : ℕ) where
  gives_passing : (refusal : Refusal) (op : Op) → gives_back (Read file at len) refusal op ≡ true → is_passing op ≡ true
  gives_passing refusal (Give cell) back = refl
  gives_passing RegionFault (Return number) back = refl
  gives_passing refusal op back = absurd (cc)

  goes_passing : (op : Op) (found : ℕ) → is_own (Read file at len) None op ≡ true → place_by op found ≡ None → is_stop op ≡ false → is_passing op ≡ true
  goes_passing (Place reply) found may unplaced unset = absurd (cc)
  goes_passing Stop found may unplaced unset = absurd (cc)
  goes_passing op found may unplaced unset = may

  own_passing : (refusal : Option Refusal) (op : Op) (found : ℕ) → is_own (Read file at len) refusal op ≡ true → place_by op found ≡ None → is_stop op ≡ false → is_passing op ≡ true
  own_passing (Some refusal) op found may unplaced unset = gives_passing refusal op may
  own_passing None op found may unplaced unset = goes_passing op found may unplaced unset

  pub own_are_passing : (sizes : Sizes) (asked : FileCall) (steps : List PassStep) → AreOwnAs sizes asked (Read file at len) steps → place_in steps ≡ None → stops_in steps ≡ false → ArePassing steps
  own_are_passing sizes asked [] own unplaced unset = tt
  own_are_passing sizes asked (step ∷ []) own unplaced unset = (own_passing None step.op step.found own.1 unplaced unset, tt)
  own_are_passing sizes asked (step ∷ (other ∷ earlier)) own unplaced unset = (
    own_passing (refusal_in sizes (Read file at len) (other ∷ earlier)) step.op step.found own.1 (either_none_last (place_in (other ∷ earlier)) (place_by step.op step.found) unplaced)
        (or_false_last (stops_in (other ∷ earlier)) (is_stop step.op) unset),
    own_are_passing sizes asked (other ∷ earlier) own.2 (either_none_first (place_in (other ∷ earlier)) (place_by step.op step.found) unplaced)
        (or_false_first (stops_in (other ∷ earlier)) (is_stop step.op) unset),
  )
