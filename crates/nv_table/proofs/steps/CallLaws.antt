-- Calls: what a step with no device call before it leaves its pass, and when a pass is between two calls.
use Rattle.std.proofs.Common.{◌≡◌, ℕ, ◌+◌, List, [], ◌∷◌, length, inl, inr, refl, sym, ap, subst, ◌∙◌, arith}
use Rattle.std.specs.Prelude.{Option}
use Rattle.nv_plain.specs.declared.call.FileCall.{FileCall}
use Rattle.nv_core.specs.state.Words.{Sizes}
use Rattle.nv_core.specs.state.Values.{Value}
use Rattle.nv_core.specs.state.Passes.{Control, Pass, IsOneOf, Idle}
use Rattle.nv_core.specs.steps.Ops.{Op}
use Rattle.nv_core.specs.steps.Order.{Values, Work, CallDue}
use Rattle.nv_core.specs.steps.PassSteps.{stepped}
use Rattle.nv_table.specs.steps.SeatSteps.{AreDue, with_call, pass_before}
use Rattle.nv_table.specs.passes.PassesMade.{IsShownStill, IsSplit, IsTakenIn}
use Rattle.nv_table.specs.invariant.Idle.{TakenHoldNothing, IsIdle, IsLater}
use Rattle.nv_table.specs.state.Opened.{Opened, state_of}
use Rattle.nv_table.specs.steps.StepContracts.{Postcondition}
use Rattle.nv_table.specs.passes.Seats.{parent, past_of, joined}
use Rattle.nv_table.specs.state.Views.{Past, PassView, first_view, pass_of, past_pass, values_of, made_of, still_owned, OwnsSlots}
use Rattle.nv_table.specs.state.States.{BoardState, PassState, IsOf}
use Rattle.nv_table.proofs.passes.BetweenLaws.{puts_opened, puts_owned}
use Rattle.nv_table.proofs.steps.OwnedSlotLaws.{slot_here, still_owned_all}

-- ---- slots of no cell

-- the slots of no cells are none
pub none_still_owned : {S : Type 0} (sizes : Sizes) (shown : S → Value) (kept : Values) (slots : List (ℕ × S)) → OwnsSlots sizes shown kept [] slots → slots ≡ []
none_still_owned sizes shown kept [] owns_slots = refl
none_still_owned sizes shown kept (first ∷ rest) owns_slots =
    let low = owns_slots.within first.0 first.1 (inl refl) in
    let none = owns_slots.each first.0 low in
    let some = slot_here first.0 first.1 rest in
    absurd (omega (arith, none, some))

owns_slots_no_cell : {S : Type 0} (sizes : Sizes) (shown : S → Value) (kept : Values) → OwnsSlots sizes shown kept [] []
owns_slots_no_cell sizes shown kept = record {
  within = λ slot held one. absurd one;
  each = λ slot low. refl;
  shows = λ slot held one. absurd one;
}

-- ---- a pass that owns nothing

-- it owns nothing, it has put nothing back, and those that it took in hold nothing
pub record IsBare (pass : PassState) : Type 0 where
  pub owned : (pass_of pass.view).owned ≡ []
  pub left : (pass_of pass.view).left ≡ []
  pub nothing : pass.now ≡ []
  pub taken : TakenHoldNothing pass.view

pub idle_bare : (pass : PassState) → IsIdle pass → IsBare pass
idle_bare pass idle = record { owned = idle.owned; left = idle.left; nothing = idle.nothing; taken = idle.taken }

pub idle_of : (pass : PassState) → (pass_of pass.view).control ≡ Idle → IsBare pass → IsIdle pass
idle_of pass control bare = record { control = control; owned = bare.owned; left = bare.left; nothing = bare.nothing; taken = bare.taken }

-- a pass that took in the same passes of the same mount
pub taken_same : (old new : PassView) → new.opened ≡ old.opened → new.ended ≡ old.ended → TakenHoldNothing old → TakenHoldNothing new
taken_same old new opened ended taken past one =
    ap (λ (o : Opened). (past_pass o past).owned) opened ∙ taken past (subst (λ (pasts : List Past). IsOneOf pasts past) ended one)

bare_still_owned : (pass : PassState) → IsBare pass → still_owned (pass_of pass.view) ≡ []
bare_still_owned pass bare = still_owned_all (pass_of pass.view) bare.left ∙ bare.owned

-- it owns what its cells keep, whatever that is
pub bare_owns_slots : (pass : PassState) (kept : Values) → IsBare pass → OwnsSlots pass.view.opened.sizes (λ value. value) kept (still_owned (pass_of pass.view)) pass.now
bare_owns_slots pass kept bare =
    let sizes = pass.view.opened.sizes in
    subst (λ cells. OwnsSlots sizes (λ value. value) kept cells pass.now) (sym (bare_still_owned pass bare))
    (subst (λ now. OwnsSlots sizes (λ value. value) kept [] now) (sym bare.nothing) (owns_slots_no_cell sizes (λ value. value) kept))

pub idle_is_still : (pass : PassState) → IsIdle pass → IsShownStill pass
idle_is_still pass idle = bare_owns_slots pass (values_of pass.view) (idle_bare pass idle)

-- ---- steps with no device call before them

-- no device call is due at such a control state
abbrev pub IsCallFree : Control → Type 0
IsCallFree control = (sizes : Sizes) (values : Values) (pass : Pass) (work : Work) → CallDue sizes values pass work control → ⊥

no_works : (sizes : Sizes) (values : Values) (pass : Pass) (works : List Work) → IsCallFree pass.control → AreDue sizes values pass works → works ≡ []
no_works sizes values pass [] free due = refl
no_works sizes values pass (work ∷ later) free due = absurd (free sizes values pass work due.0.due)

module _ (old new : PassState) (opens : Option FileCall) (op : Op) (found : ℕ) (free : IsCallFree (pass_of old.view).control) (is : Postcondition old opens op found new) where
  abbrev before : Pass
  before = with_call old.view.opened.sizes opens (pass_of old.view)

  -- the pass has made this step, and nothing else
  pub stepped_there : pass_of new.view ≡ stepped old.view.opened.sizes old.view.number (state_of old.view.opened is.steps.run).history op found before
  stepped_there =
      let none = no_works old.view.opened.sizes (values_of old.view) (pass_of old.view) is.works free is.due in
      is.pass
      ∙ ap (λ works. stepped old.view.opened.sizes old.view.number (state_of old.view.opened is.steps.run).history op found (pass_before old.view opens works)) none

-- ---- passes that are made and taken in

pub fresh_is_idle : (pass : PassState) (opened : Opened) → pass.view ≡ first_view opened → pass.now ≡ [] → IsIdle pass
fresh_is_idle pass opened is nothing = record {
  control = ap (λ (view : PassView). (pass_of view).control) is;
  owned = ap (λ (view : PassView). (pass_of view).owned) is;
  left = ap (λ (view : PassView). (pass_of view).left) is;
  nothing = nothing;
  taken = subst TakenHoldNothing (sym is) (λ past one. absurd one);
}

-- the pass of an idle pass is that of another view
idle_on : (old new : PassState) → pass_of new.view ≡ pass_of old.view → new.now ≡ old.now → TakenHoldNothing new.view → IsIdle old → IsIdle new
idle_on old new same now taken idle = record {
  control = ap (λ (p : Pass). p.control) same ∙ idle.control;
  owned = ap (λ (p : Pass). p.owned) same ∙ idle.owned;
  left = ap (λ (p : Pass). p.left) same ∙ idle.left;
  nothing = now ∙ idle.nothing;
  taken = taken;
}

-- pass 0 has made another pass
pub parent_is_idle : (old new other : PassState) → IsSplit old new other → IsIdle old → IsIdle new
parent_is_idle old new other is idle =
    subst IsIdle (sym is.parent_is)
    (idle_on old (record old { view = parent is.middle }) is.made.pass refl (subst (λ (v : PassView). TakenHoldNothing (parent v)) (sym is.made.is) idle.taken) idle)

pub child_is_idle : (old new other : PassState) → IsSplit old new other → IsIdle other
child_is_idle old new other is =
    subst IsIdle (sym is.child_is) (record {
      control = ap (λ (p : Pass). p.control) is.fresh;
      owned = ap (λ (p : Pass). p.owned) is.fresh;
      left = ap (λ (p : Pass). p.left) is.fresh;
      nothing = refl;
      taken = λ past one. absurd one;
    })

-- one more is made then, and it has a number of its own
pub split_made : (old new other : PassState) → IsSplit old new other → old.view.number ≡ 0 → made_of new.view ≡ made_of old.view + 1
split_made old new other is zero = ap (λ (p : PassState). made_of p.view) is.parent_is ∙ is.made.made zero

pub child_number : (old new other : PassState) → IsSplit old new other → old.view.number ≡ 0 → other.view.number ≡ made_of old.view + 1
child_number old new other is zero = ap (λ (p : PassState). p.view.number) is.child_is ∙ is.made.made zero

-- pass 0 has taken another pass in, which held nothing
pub taker_is_idle : (board : BoardState) (old other new : PassState) → IsOf board old → IsOf board other → IsTakenIn old other new → IsIdle old → (pass_of other.view).owned ≡ [] → IsIdle new
taker_is_idle board old other new of of_other is idle bare =
    subst IsIdle (sym is.is)
    (idle_on old (record old { view = is.view }) is.taken.pass refl (subst TakenHoldNothing (sym is.taken.is) taken) idle)
  where
    same_mount : old.view.opened ≡ is.last.opened
    same_mount = of.same_mount ∙ sym of_other.same_mount ∙ sym (puts_opened is.cells other.view is.last is.back)

    taken : TakenHoldNothing (joined old.view is.last)
    taken past (inl here) =
        ap (λ (one : Past). (past_pass old.view.opened one).owned) here ∙ ap (λ (o : Opened). (past_pass o (past_of is.last)).owned) same_mount
        ∙ puts_owned is.cells other.view is.last is.back ∙ bare
    taken past (inr before) = idle.taken past before

pub taken_made : (old other new : PassState) → IsTakenIn old other new → old.view.number ≡ 0 → made_of new.view ≡ made_of old.view
taken_made old other new is zero = ap (λ (p : PassState). made_of p.view) is.is ∙ is.taken.made zero

pub taken_ended : (old other new : PassState) → IsTakenIn old other new → length new.view.ended ≡ length old.view.ended + 1
taken_ended old other new is =
    let ended : new.view.ended ≡ past_of is.last ∷ old.view.ended = ap (λ (p : PassState). p.view.ended) is.is ∙ ap (λ (v : PassView). v.ended) is.taken.is in
    omega (arith, ap length ended)

-- ---- the same pass, later

pub later_self : (pass : PassState) → IsLater pass pass
later_self pass = record { number = refl; ended = refl; made = λ zero. refl }

pub later_on : (old middle new : PassState) → IsLater old middle → IsLater middle new → IsLater old new
later_on old middle new one more = record {
  number = more.number ∙ one.number;
  ended = more.ended ∙ one.ended;
  made = λ zero. more.made (one.number ∙ zero) ∙ one.made zero;
}

pub later_by : (old new : PassState) (opens : Option FileCall) (op : Op) (found : ℕ) → Postcondition old opens op found new → IsLater old new
later_by old new opens op found is = record {
  number = ap (λ (v : PassView). v.number) is.steps.is;
  ended = ap (λ (v : PassView). v.ended) is.steps.is;
  made = is.made;
}
