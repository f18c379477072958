-- Exchanges: what a pass owns, when one of its slots gets something else.
use Rattle.std.proofs.Common.{arith, ◌≡◌, ◌≢◌, refl, sym, ap, ◌∙◌, subst, inl, inr, ℕ, List, ◌∷◌}
use Rattle.std.specs.Prelude.{Option}
use Rattle.nv_core.specs.state.Values.{Value}
use Rattle.nv_core.specs.state.Passes.{IsOneOf}
use Rattle.nv_table.specs.steps.Exchanges.{IsExchanged}
use Rattle.nv_table.specs.state.Views.{PassView, slot_times}
use Rattle.nv_table.specs.state.States.{shown_in}
use Rattle.nv_table.specs.invariant.BetweenSteps.{IsPass}
use Rattle.nv_table.specs.state.Rotated.{IsTurned}
use Rattle.nv_table.proofs.steps.OwnedSlotLaws.{slot_some, slot_here}
use Rattle.nv_table.proofs.steps.StepLaws.{one_turned}
use Rattle.nv_table.proofs.steps.TurnLaws.{times_turned}

module _ {S : Type 0} (shown : S → Value) (slot : ℕ) (out into : S) (behind : List (ℕ × S)) (now : List (ℕ × Value))
    (turned : IsTurned now (shown_in shown ((slot, out) ∷ behind))) (once : slot_times slot now ≡ 1) where
  -- each of the turned slots is one of those that the pass had
  was_there : (one : ℕ × Value) → IsOneOf (shown_in shown ((slot, out) ∷ behind)) one → IsOneOf now one
  was_there one is = one_turned turned.0 now one (subst (λ all. IsOneOf all one) turned.1 is)

  times_there : (other : ℕ) → slot_times other now ≡ slot_times other (shown_in shown ((slot, out) ∷ behind))
  times_there other = sym (ap (slot_times other) turned.1 ∙ times_turned other turned.0 now)

  -- the slot stands nowhere else
  not_behind : (value : Value) → IsOneOf (shown_in shown behind) (slot, value) → ⊥
  not_behind value is =
      let more = slot_some (shown_in shown behind) slot value is in
      let all = slot_here slot (shown out) (shown_in shown behind) in
      omega (arith, more, all, times_there slot, once)

  pub exchanged : IsExchanged slot (shown out) (shown into) now (shown_in shown ((slot, into) ∷ behind))
  exchanged = record {
    was = was_there (slot, shown out) (inl refl);
    here = here;
    times_same = λ other. sym (times_there other);
    others = others;
  }
    where
      here : (value : Value) → IsOneOf (shown_in shown ((slot, into) ∷ behind)) (slot, value) → value ≡ shown into
      here value (inl is) = ap (λ one. one.1) is
      here value (inr is) = absurd (not_behind value is)

      others : (other : ℕ) (value : Value) → other ≢ slot → IsOneOf (shown_in shown ((slot, into) ∷ behind)) (other, value) → IsOneOf now (other, value)
      others other value ne (inl is) = absurd (ne (ap (λ one. one.0) is))
      others other value ne (inr is) = was_there (other, value) (inr is)

-- a pass stays one
pub pass_exchanged : {S : Type 0} {drawn lost : Option ℕ} (view : PassView) (slot : ℕ) (out into : S) (behind : List (ℕ × S)) (number made joined : ℕ) (held : List ℕ) (room : ℕ)
    → IsPass view ((slot, out) ∷ behind) number made joined held room drawn lost → IsPass view ((slot, into) ∷ behind) number made joined held room drawn lost
pass_exchanged view slot out into behind number made joined held room is = record {
  live = is.live;
  number_is = is.number_is;
  mount = is.mount;
  run = is.run;
  known = is.known;
  keeper = is.keeper;
  within = is.within;
  each = is.each;
  written = is.written;
  roomy = is.roomy;
  drawn_is = is.drawn_is;
  lost_is = is.lost_is;
}
