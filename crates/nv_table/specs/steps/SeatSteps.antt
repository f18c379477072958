-- Seat steps: a step of a seat, with the device calls of its pass that lie before it.
use Rattle.std.specs.Prelude.{◌≡◌, ℕ, ◌≤◌, ◌<◌, ◌^◌, List, [], ◌∷◌, ◌++◌, map, Option, Some, None}
use Rattle.nv_plain.specs.declared.call.FileCall.{FileCall}
use Rattle.nv_core.specs.state.Words.{Sizes, place}
use Rattle.nv_core.specs.state.Values.{Value}
use Rattle.nv_core.specs.state.Passes.{Pass}
use Rattle.nv_core.specs.steps.Ops.{Op, Move, Stays, Comes, Goes, word_of, value_after, move_of}
use Rattle.atomic_table.specs.Table.{Me, rest}
use Rattle.nv_table.specs.state.Layout.{slot_of_cell}
use Rattle.nv_core.specs.steps.Order.{Values, Work, Enabled, CallEnabled}
use Rattle.nv_core.specs.steps.Frames.{AgreeOn}
use Rattle.nv_core.specs.state.Core.{Core, worked, values_worked, values_stepped}
use Rattle.nv_core.specs.steps.PassSteps.{begun, stepped}
use Rattle.nv_core.specs.steps.Events.{Act, BeginsCall, TakesStep, CallsDevice, Event, CallMayBegin}
use Rattle.nv_core.specs.invariant.Sound.{Sound}
use Rattle.nv_table.specs.state.Opened.{mount_of, IsRunOf, state_of}
use Rattle.nv_table.specs.state.Views.{PassView, pass_of, values_of, made_of, ended_of, still_owned, AllBegin, OwnsSlots, KnowsRun}

-- ---- device calls before a step

-- some device calls may come, one after another
abbrev pub AreDue : Sizes → Values → Pass → List Work → Type 0
AreDue sizes values pass [] = Unit {0}
AreDue sizes values pass (work ∷ later) = CallEnabled sizes values pass work × AreDue sizes (values_worked pass work values) (worked sizes work pass) later

-- the pass after them, and what the cells keep then
abbrev pub pass_worked : Sizes → List Work → Pass → Pass
pass_worked sizes [] pass = pass
pass_worked sizes (work ∷ later) pass = pass_worked sizes later (worked sizes work pass)

abbrev pub values_after : Sizes → List Work → Pass → Values → Values
values_after sizes [] pass values = values
values_after sizes (work ∷ later) pass values = values_after sizes later (worked sizes work pass) (values_worked pass work values)

-- ---- the step

-- a step, and the call that it begins, if it does
abbrev pub act_of : Option FileCall → Op → (found : ℕ) → Act
act_of None op found = TakesStep op found
act_of (Some call) op found = BeginsCall call op found

-- the pass as the step finds it
abbrev pub with_call : Sizes → Option FileCall → Pass → Pass
with_call sizes None pass = pass
with_call sizes (Some call) pass = begun sizes call pass

abbrev pub MayOpen : Sizes → Option FileCall → Pass → Type 0
MayOpen sizes None pass = Unit {0}
MayOpen sizes (Some call) pass = CallMayBegin sizes call pass

-- the events of a pass up to its next step
abbrev pub events : (number : ℕ) → List Work → Act → List Event
events number works act = map (λ work. record { by = number; act = CallsDevice work }) works ++ record { by = number; act = act } ∷ []

-- the pass as its next step finds it, after some device calls, and what the cells keep then
abbrev pub pass_before : PassView → Option FileCall → List Work → Pass
pass_before view opens works = with_call view.opened.sizes opens (pass_worked view.opened.sizes works (pass_of view))

abbrev pub values_before : PassView → List Work → Values
values_before view works = values_after view.opened.sizes works (pass_of view) (values_of view)

-- The step may come next after these device calls, on the word at a place, which it changes so.
pub record EnabledAt (view : PassView) (works : List Work) (opens : Option FileCall) (op : Op) (at : ℕ) (change : ℕ → ℕ) : Type 0 where
  pub due : AreDue view.opened.sizes (values_of view) (pass_of view) works
  pub begins : MayOpen view.opened.sizes opens (pass_worked view.opened.sizes works (pass_of view))
  pub may : Enabled view.opened.sizes (values_before view works) (pass_before view opens works) op
  pub staying : (pass_of view).left ≡ []
  pub word : place view.opened.sizes (word_of view.opened.sizes (pass_before view opens works) op) ≡ at
  pub value : (core : Core) → Sound view.opened.sizes (mount_of view.opened).values core → core.made ≤ 2 ^ 32
      → core.passes view.number ≡ pass_worked view.opened.sizes works (pass_of view)
      → core.words (word_of view.opened.sizes (pass_before view opens works) op) < 2 ^ 64
      → value_after view.opened.sizes (pass_before view opens works) op (core.words (word_of view.opened.sizes (pass_before view opens works) op))
      ≡ change (core.words (word_of view.opened.sizes (pass_before view opens works) op))

-- What a step tells: the run up to it, in which the seat had seen all of its own, and all runs of which it was told; and that its events came then.
pub record StepTells (old : PassView) (works : List Work) (act : Act) (new : PassView) : Type 0 where
  pub run : List Event
  pub is_run : IsRunOf old.opened (run ++ events old.number works act)
  pub knew : KnowsRun old.opened run old
  pub imported : AllBegin old.told run
  pub is : new ≡ record old { run = run ++ events old.number works act }

-- ---- what a pass owns

-- what the cells keep after the step
abbrev pub values_then : PassView → Option FileCall → Op → List Work → Values
values_then view opens op works = values_stepped view.opened.sizes (pass_before view opens works) op (values_before view works)

-- what a seat has taken before and after a step: the slot of the cell that moves came to the front, or went from there
abbrev pub came : {S : Type 0} → Option ℕ → (old new : List (ℕ × S)) → Type 0
came None old new = new ≡ old
came {S = S} (Some slot) old new = (held : S) × (new ≡ (slot, held) ∷ old)

abbrev pub went : {S : Type 0} → Option ℕ → (old new : List (ℕ × S)) → Type 0
went None old new = new ≡ old
went (Some slot) old new = new ≡ rest old

abbrev pub Moved : {S : Type 0} → Sizes → Move → (old new : List (ℕ × S)) → Type 0
Moved sizes Stays old new = new ≡ old
Moved sizes (Comes cell) old new = came (slot_of_cell sizes cell) old new
Moved sizes (Goes cell) old new = went (slot_of_cell sizes cell) old new

-- the slot of a cell that goes home was taken last
abbrev pub IsFirst : {S : Type 0} → Option ℕ → List (ℕ × S) → Type 0
IsFirst None slots = Unit {0}
IsFirst {S = S} (Some slot) slots = (held : S) × (slots ≡ (slot, held) ∷ rest slots)

abbrev pub IsInFront : {S : Type 0} → Sizes → Move → List (ℕ × S) → Type 0
IsInFront sizes (Goes cell) slots = IsFirst (slot_of_cell sizes cell) slots
IsInFront sizes move slots = Unit {0}

-- ---- what a step asks of a seat, and what it tells it

-- It may come after some device calls, and what the seat has taken is what these made of it, with the buffers as the step is to leave them.
pub record SeatPrecondition {S : Type 0} (shown : S → Value) (old : Me S PassView) (opens : Option FileCall) (op : Op) (at : ℕ) (change : ℕ → ℕ) : Type 0 where
  pub works : List Work
  pub next : EnabledAt old.0 works opens op at change
  pub owns_slots : OwnsSlots old.0.opened.sizes shown (values_then old.0 opens op works) (still_owned (pass_of old.0)) old.1
  pub front : (found : ℕ) → IsInFront old.0.opened.sizes (move_of old.0.opened.sizes op found) old.1

-- Some such calls came, and then the step, which found this; and what the seat then has taken is what its pass owns. Pass 0 knows
-- which passes there are.
pub record SeatPostcondition {S : Type 0} (shown : S → Value) (old : Me S PassView) (opens : Option FileCall) (op : Op) (found : ℕ) (new : Me S PassView) : Type 0 where
  pub works : List Work
  pub due : AreDue old.0.opened.sizes (values_of old.0) (pass_of old.0) works
  pub still_owned_before : OwnsSlots old.0.opened.sizes shown (values_then old.0 opens op works) (still_owned (pass_of old.0)) old.1
  pub steps : StepTells old.0 works (act_of opens op found) new.0
  pub knows : KnowsRun old.0.opened new.0.run new.0
  pub pass : pass_of new.0 ≡ stepped old.0.opened.sizes old.0.number (state_of old.0.opened steps.run).history op found (pass_before old.0 opens works)
  pub kept : AgreeOn (pass_of old.0) (values_of new.0) (values_then old.0 opens op works)
  pub made : old.0.number ≡ 0 → made_of new.0 ≡ made_of old.0
  pub ended : old.0.number ≡ 0 → ended_of new.0 ≡ ended_of old.0
  pub moved : Moved old.0.opened.sizes (move_of old.0.opened.sizes op found) old.1 new.1
  pub owns_slots : OwnsSlots old.0.opened.sizes shown (values_of new.0) (still_owned (pass_of new.0)) new.1
