-- Batches: a step that the core's order says is due, and the batch goes on with the core.
use Rattle.std.proofs.Common.{◌≡◌, ℕ, List, [], ◌∷◌, inl, inr, refl, sym, ap, subst, ◌∙◌}
use Rattle.std.specs.Prelude.{Option, Some, None, Bool, true, false, if◌then◌else◌, ◌==◌, option_map}
use Rattle.nv_core.specs.state.Words.{Sizes, Word, CLEANER, is_lock}
use Rattle.nv_core.specs.state.Cleaner as cleaner
use Rattle.nv_core.specs.state.Cleaner.{Batch, CleanerControl, CleanerOp as CoreCleanerOp, TakeCleaner as TakeCleanerOp}
use Rattle.nv_core.specs.state.Passes.{Control, Idle, Cleaning, Pass}
use Rattle.nv_core.specs.state.Core.{worked}
use Rattle.nv_core.specs.steps.CleanerSteps.{last_taken, new_batch, next_cleaner_op, next_store}
use Rattle.nv_core.specs.steps.ControlSteps.{after_by_cleaner}
use Rattle.nv_core.specs.steps.Ops.{Op, ByCleaner as CleanerStep, Comes, Stays, cleaner_move, moved}
use Rattle.nv_core.specs.steps.Order.{Values, Work, step_at, next_step, IsBatchEntry}
use Rattle.nv_table.specs.invariant.Idle.{IsIdle, IsLater}
use Rattle.nv_table.specs.state.States.{PassState}
use Rattle.nv_table.specs.state.Views.{PassView, OwnsSlots, pass_of, values_of, made_of, still_owned}
use Rattle.nv_table.specs.steps.CallSteps.{Precondition}
use Rattle.nv_table.specs.steps.SeatSteps.{AreDue, pass_worked, values_before}
use Rattle.nv_table.specs.steps.StepContracts.{Postcondition}
use Rattle.nv_table.proofs.invariant.DrawnLaws.{calls_leave}
use Rattle.nv_table.proofs.steps.CallLaws.{IsCallFree, idle_is_still, later_self, later_by, later_on, none_still_owned, taken_same}
use Rattle.nv_table.proofs.steps.OwnedSlotLaws.{still_owned_all}
use Rattle.nv_mirror.specs.PassSteps.{PassStep, HasMade, HasTaken, IsBetweenSteps}
use Rattle.nv_mirror.proofs.StepLaws.{between_self, taken_by, opened_same}
use Rattle.nv_clean.specs.Cleaning.{InBatch}
use Rattle.nv_clean.specs.OwnSteps.{comes_in_batch, is_own}

-- ---- its beginning and its end

pub batch_begins : (start : PassState) → IsIdle start → InBatch Idle [] start start
batch_begins start idle = record {
  idle = idle;
  steps = [];
  made = refl;
  own = tt;
  later = later_self start;
  spare = refl;
  mount = refl;
  still = idle_is_still start idle;
  left = idle.left;
  unplaced = record { seen = refl; mine = refl };
  control_is = idle.control;
  owned_is = idle.owned;
}

pub batch_ends : (start now : PassState) → InBatch Idle [] start now → IsIdle now
batch_ends start now is = record {
  control = is.control_is;
  owned = is.owned_is;
  left = is.left;
  nothing = none_still_owned now.view.opened.sizes (λ value. value) (values_of now.view) now.now
      (subst (λ cells. OwnsSlots now.view.opened.sizes (λ value. value) (values_of now.view) cells now.now) (still_owned_all (pass_of now.view) is.left ∙ is.owned_is) is.still);
  taken = taken_same start.view now.view is.mount is.later.ended is.idle.taken;
}

-- ---- its steps are its own

-- no device call is due before its first step
pub idle_free : IsCallFree Idle
idle_free s values pass work due = due

pub no_works : (sizes : Sizes) (values : Values) (pass : Pass) (works : List Work) → IsCallFree pass.control → AreDue sizes values pass works → works ≡ []
no_works sizes values pass [] free due = refl
no_works sizes values pass (work ∷ later) free due = absurd (free sizes values pass work due.0.due)

-- a step that is next in a batch takes no CLEANER
ComesNext : Option CoreCleanerOp → Type 0
ComesNext None = Unit {0}
ComesNext (Some op) = comes_in_batch (CleanerStep op) ≡ true

module _ (sizes : Sizes) (owned : List Word) (batch : Batch) where
  comes_last : (cells : List Word) → ComesNext (last_taken cells)
  unfolding ComesNext
  comes_last [] = tt
  comes_last (cell ∷ rest) = go (is_lock cell)
    where
      go : (b : Bool) → ComesNext (if b then Some (cleaner.Give cell) else None)
      go true = refl
      go false = tt

  comes_store : (files : List ℕ) → ComesNext (next_store files)
  unfolding ComesNext
  comes_store [] = tt
  comes_store (file ∷ rest) = refl

  comes_at : (inner : CleanerControl) → ComesNext (next_cleaner_op sizes owned batch inner)
  unfolding ComesNext
  comes_at cleaner.TakeHeader = refl
  comes_at cleaner.LoadStop = refl
  comes_at cleaner.LoadTail = refl
  comes_at cleaner.LoadHead = refl
  comes_at (cleaner.LoadEntry i) = refl
  comes_at (cleaner.TakeCleanup i) = refl
  comes_at cleaner.TakeStore = refl
  comes_at (cleaner.HoldEntry i) = refl
  comes_at (cleaner.ReadPiece i) = tt
  comes_at (cleaner.WriteBack i) = tt
  comes_at (cleaner.CleanEntry i) = refl
  comes_at (cleaner.SubtractDirty i) = refl
  comes_at (cleaner.GiveCleanup i) = refl
  comes_at (cleaner.RefusedReturnEntry i end) = refl
  comes_at (cleaner.FailedReturnEntry i end) = refl
  comes_at (cleaner.RefusedGiveCleanup i) = refl
  comes_at (cleaner.SyncStores files) = tt
  comes_at (cleaner.MoveHeaderTail calls) = tt
  comes_at (cleaner.FreeEntry number) = refl
  comes_at cleaner.AdvanceTail = refl
  comes_at (cleaner.GiveStores files) = comes_store files
  comes_at cleaner.GiveHeader = refl
  comes_at cleaner.GiveCleaner = refl
  comes_at (cleaner.SetStop held) = refl
  comes_at cleaner.GiveBack = comes_last owned

  comes_next : (inner : CleanerControl) (op : CoreCleanerOp) → next_cleaner_op sizes owned batch inner ≡ Some op → comes_in_batch (CleanerStep op) ≡ true
  unfolding ComesNext
  comes_next inner op next = subst ComesNext next (comes_at inner)

-- so it is one of the batch's own, once that has begun
own_of : (steps : List PassStep) (start now : PassState) (op : Op) → HasMade steps start now → (now ≡ start → ⊥) → comes_in_batch op ≡ true → is_own steps op ≡ true
own_of [] start now op made begun comes = absurd (begun made)
own_of (step ∷ earlier) start now op made begun comes = comes

-- ---- a step that is due

pub first_due : (most : ℕ) (start now : PassState) → InBatch Idle [] start now → Precondition now None (CleanerStep (TakeCleanerOp most))
first_due most start now is = record {
  works = [];
  due = tt;
  begins = tt;
  may = inr (subst (IsBatchEntry (CleanerStep (TakeCleanerOp most))) (sym is.control_is) tt);
  staying = is.left;
  holds = is.still;
}

-- the next step of a pass that stands so
pub next_at : (sizes : Sizes) (values : Values) (pass : Pass) (batch : Batch) (inner : CleanerControl) (owned : List Word) (op : CoreCleanerOp) → pass.control ≡ Cleaning batch inner → pass.owned ≡ owned
    → next_cleaner_op sizes owned batch inner ≡ Some op → next_step sizes values pass ≡ Some (CleanerStep op)
next_at sizes values pass batch inner owned op at owns next =
    ap (step_at sizes values pass) at
    ∙ ap (λ cells. option_map (λ cleaner_op. CleanerStep cleaner_op) (next_cleaner_op sizes cells batch inner)) owns
    ∙ ap (option_map (λ cleaner_op. CleanerStep cleaner_op)) next

module _ (control : Control) (owned : List Word) (start now : PassState) (called : InBatch control owned start now) where
  pub step_due : (batch : Batch) (inner : CleanerControl) (op : CoreCleanerOp) → control ≡ Cleaning batch inner → next_cleaner_op now.view.opened.sizes owned batch inner ≡ Some op → Precondition now None (CleanerStep op)
  step_due batch inner op at next = record {
    works = [];
    due = tt;
    begins = tt;
    may = inl (next_at now.view.opened.sizes (values_of now.view) (pass_of now.view) batch inner owned op (called.control_is ∙ at) called.owned_is next);
    staying = called.left;
    holds = called.still;
  }

  module _ (before : PassState) (between : IsBetweenSteps now before) where
    -- behind some device calls, where what the pass owns shows what these leave
    pub worked_due : (works : List Work) (batch : Batch) (inner : CleanerControl) (op : CoreCleanerOp) → AreDue now.view.opened.sizes (values_of now.view) (pass_of now.view) works
        → (pass_worked now.view.opened.sizes works (pass_of now.view)).control ≡ Cleaning batch inner → next_cleaner_op now.view.opened.sizes owned batch inner ≡ Some op
        → OwnsSlots now.view.opened.sizes (λ value. value) (values_before now.view works) (still_owned (pass_of now.view)) before.now
        → (due : Precondition before None (CleanerStep op)) × (due.works ≡ works)
    worked_due works batch inner op due at next owns_slots =
        subst (λ (view : PassView). (due : Precondition (record before { view = view }) None (CleanerStep op)) × (due.works ≡ works)) (sym between.view) (
          record {
            works = works;
            due = due;
            begins = tt;
            may = inl (next_at now.view.opened.sizes (values_before now.view works) (pass_worked now.view.opened.sizes works (pass_of now.view)) batch inner owned op at
                (calls_leave (λ (p : Pass). p.owned) (λ sizes work p. refl) now.view.opened.sizes works (pass_of now.view) ∙ called.owned_is) next);
            staying = called.left;
            holds = owns_slots;
          },
          refl,
        )

    -- ---- and the batch goes on with the core

    module _ (op : CoreCleanerOp) (found : ℕ) (new : PassState) (step : Postcondition before None (CleanerStep op) found new) where
      abbrev worked_pass : Pass
      worked_pass = pass_worked before.view.opened.sizes step.works (pass_of before.view)

      abbrev made_step : PassStep
      made_step = record { opens = None; works = step.works; op = CleanerStep op; found = found }

      pub made_one : HasTaken made_step now new
      made_one = taken_by now before new None (CleanerStep op) found between step

      opened : new.view.opened ≡ now.view.opened
      opened = opened_same before new None (CleanerStep op) found step ∙ ap (λ (v : PassView). v.opened) between.view

      same_sizes : before.view.opened.sizes ≡ now.view.opened.sizes
      same_sizes = ap (λ (v : PassView). v.opened.sizes) between.view

      kept : {T : Type 0} (f : Pass → T) → ((sizes : Sizes) (work : Work) (p : Pass) → f (worked sizes work p) ≡ f p) → f worked_pass ≡ f (pass_of now.view)
      kept f leaves = calls_leave f leaves before.view.opened.sizes step.works (pass_of before.view) ∙ ap (λ (v : PassView). f (pass_of v)) between.view

      owns : worked_pass.owned ≡ owned
      owns = kept (λ p. p.owned) (λ sizes work p. refl) ∙ called.owned_is

      later_between : IsLater now before
      later_between = record {
        number = ap (λ (v : PassView). v.number) between.view;
        ended = ap (λ (v : PassView). v.ended) between.view;
        made = λ zero. ap (λ (v : PassView). made_of v) between.view;
      }

      -- a pass that stands in a batch has begun it
      not_idle : (batch : Batch) (inner : CleanerControl) → worked_pass.control ≡ Cleaning batch inner → now ≡ start → ⊥
      not_idle batch inner at same =
          let idle : (pass_of before.view).control ≡ Idle = ap (λ (v : PassView). (pass_of v).control) between.view ∙ ap (λ (p : PassState). (pass_of p.view).control) same ∙ called.idle.control in
          let none : step.works ≡ [] = no_works before.view.opened.sizes (values_of before.view) (pass_of before.view) step.works (subst IsCallFree (sym idle) idle_free) step.due in
          let still : worked_pass.control ≡ Idle = ap (λ works. (pass_worked before.view.opened.sizes works (pass_of before.view)).control) none ∙ idle in
          let e : Idle ≡ Cleaning batch inner = sym still ∙ at in cc

      pub own_next : (sizes : Sizes) (batch : Batch) (inner : CleanerControl) → worked_pass.control ≡ Cleaning batch inner → next_cleaner_op sizes owned batch inner ≡ Some op → is_own called.steps (CleanerStep op) ≡ true
      own_next sizes batch inner at next = own_of called.steps start now (CleanerStep op) called.made (not_idle batch inner at) (comes_next sizes owned batch inner op next)

      pub goes_on : is_own called.steps (CleanerStep op) ≡ true → (mid : Control) → worked_pass.control ≡ mid
          → InBatch (after_by_cleaner now.view.opened.sizes (moved (cleaner_move now.view.opened.sizes op found) owned) op found mid) (moved (cleaner_move now.view.opened.sizes op found) owned) start new
      goes_on own mid behind = record {
        idle = called.idle;
        steps = made_step ∷ called.steps;
        made = (now, called.made, made_one);
        own = (refl, own, called.own);
        later = later_on start now new called.later (later_on now before new later_between (later_by before new None (CleanerStep op) found step));
        spare = step.spare ∙ between.spare ∙ called.spare;
        mount = opened ∙ called.mount;
        still = step.owns_slots;
        left = ap (λ (p : Pass). p.left) step.pass ∙ kept (λ p. p.left) (λ sizes work p. refl) ∙ called.left;
        unplaced = record {
          seen = ap (λ (p : Pass). p.seen) step.pass ∙ kept (λ p. p.seen) (λ sizes work p. refl) ∙ called.unplaced.seen;
          mine = ap (λ (p : Pass). p.mine) step.pass ∙ kept (λ p. p.mine) (λ sizes work p. refl) ∙ called.unplaced.mine;
        };
        control_is = ap (λ (p : Pass). p.control) step.pass
            ∙ ap (λ cells. after_by_cleaner before.view.opened.sizes (moved (cleaner_move before.view.opened.sizes op found) cells) op found worked_pass.control) owns
            ∙ ap (after_by_cleaner before.view.opened.sizes (moved (cleaner_move before.view.opened.sizes op found) owned) op found) behind
            ∙ ap (λ (s : Sizes). after_by_cleaner s (moved (cleaner_move s op found) owned) op found mid) same_sizes;
        owned_is = ap (λ (p : Pass). p.owned) step.pass ∙ ap (moved (cleaner_move before.view.opened.sizes op found)) owns ∙ ap (λ (s : Sizes). moved (cleaner_move s op found) owned) same_sizes;
      }

-- it begins where CLEANER is found free
pub begins_on : (most found : ℕ) (start new : PassState) → IsIdle start → Postcondition start None (CleanerStep (TakeCleanerOp most)) found new
    → InBatch (if found == 0 then Cleaning (new_batch most) cleaner.TakeHeader else Idle) (moved (if found == 0 then Comes CLEANER else Stays) []) start new
unfolding batch_begins
begins_on most found start new idle step =
    goes_on Idle [] start start (batch_begins start idle) start (between_self start) (TakeCleanerOp most) found new step refl Idle
    (ap (λ works. (pass_worked start.view.opened.sizes works (pass_of start.view)).control)
    (no_works start.view.opened.sizes (values_of start.view) (pass_of start.view) step.works (subst IsCallFree (sym idle.control) idle_free) step.due)
    ∙ idle.control)
