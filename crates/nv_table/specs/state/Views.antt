-- Views: what a seat of the table has seen of the run.
use Rattle.std.specs.Prelude.{◌≡◌, ℕ, ◌+◌, ◌<◌, ◌≤◌, ◌==◌, if◌then◌else◌, Bool, true, List, [], ◌∷◌, ◌++◌, map}
use Rattle.nv_core.specs.state.Words.{Sizes, Word}
use Rattle.nv_core.specs.state.Values.{Value}
use Rattle.nv_core.specs.state.Passes.{Pass, IsOneOf, times, without}
use Rattle.nv_core.specs.steps.Order.{Values}
use Rattle.nv_core.specs.invariant.OneHistory.{IsPrefix}
use Rattle.nv_core.specs.steps.Events.{Event, own}
use Rattle.nv_table.specs.state.Layout.{slot_total, cell_of}
use Rattle.nv_table.specs.state.Opened.{Opened, state_of}

-- a pass that was taken in, and the run up to its last event
pub record Past : Type 0 where
  pub number : ℕ
  pub run : List Event

-- How the mount was opened; the number of the seat's pass, and whether it is a pass's at all; the run of all passes up to its last event; the
-- runs that it was told of, the last first; and for pass 0 how many passes have got a seat, and those that were taken in, the last first.
pub record PassView : Type 0 where
  pub opened : Opened
  pub number : ℕ
  pub live : Bool
  pub run : List Event
  pub told : List (List Event)
  pub seated : ℕ
  pub ended : List Past

-- the pass, and what the cells keep, as at its last event
abbrev pub pass_of : PassView → Pass
pass_of view = (state_of view.opened view.run).passes view.number

abbrev pub values_of : PassView → Values
values_of view = (state_of view.opened view.run).values

-- how many passes there are beside pass 0, and which were taken in, as pass 0 saw it last
abbrev pub made_of : PassView → ℕ
made_of view = (state_of view.opened view.run).made

abbrev pub ended_of : PassView → List ℕ
ended_of view = (state_of view.opened view.run).ended

-- the first seat's, which is pass 0's
abbrev pub first_view : Opened → PassView
first_view opened = record { opened = opened; number = 0; live = true; run = []; told = []; seated = 0; ended = [] }

-- ---- hands

-- owned cells without the cells that were put back
abbrev pub without_all : (left owned : List Word) → List Word
without_all [] owned = owned
without_all (cell ∷ rest) owned = without cell (without_all rest owned)

-- the cells that a pass still owns: its owned cells, but for those that it has put back
abbrev pub still_owned : Pass → List Word
still_owned pass = without_all pass.left pass.owned

-- a pass that was taken in, as at its last event
abbrev pub past_pass : Opened → Past → Pass
past_pass opened past = (state_of opened past.run).passes past.number

-- the numbers of some that were taken in
abbrev pub numbers : List Past → List ℕ
numbers pasts = map (λ past. past.number) pasts

-- no two of some numbers are one
abbrev pub AreDistinctNumbers : List ℕ → Type 0
AreDistinctNumbers [] = Unit {0}
AreDistinctNumbers (number ∷ rest) = (IsOneOf rest number → ⊥) × AreDistinctNumbers rest

-- how often a slot is among some
abbrev pub slot_times : {S : Type 0} → (slot : ℕ) → List (ℕ × S) → ℕ
slot_times slot [] = 0
slot_times slot (one ∷ rest) = (if slot == one.0 then 1 else 0) + slot_times slot rest

-- Some slots are those of the cells that a pass owns, in any order, and show what these keep.
pub record OwnsSlots {S : Type 0} (sizes : Sizes) (shown : S → Value) (kept : Values) (cells : List Word) (slots : List (ℕ × S)) : Type 0 where
  pub within : (slot : ℕ) (held : S) → IsOneOf slots (slot, held) → slot < slot_total sizes
  pub each : (slot : ℕ) → slot < slot_total sizes → slot_times slot slots ≡ times (cell_of sizes slot) cells
  pub shows : (slot : ℕ) (held : S) → IsOneOf slots (slot, held) → shown held ≡ kept (cell_of sizes slot)

-- ---- what a seat knows of a run

-- each of some runs is a first part of it
abbrev pub AllBegin : List (List Event) → (run : List Event) → Type 0
AllBegin [] run = Unit {0}
AllBegin (first ∷ rest) run = IsPrefix first run × AllBegin rest run

-- It has seen a first part of it, behind which no event of its pass comes.
pub record SeesAll (number : ℕ) (seen run : List Event) : Type 0 where
  pub rest : List Event
  pub goes_on : run ≡ seen ++ rest
  pub quiet : own number rest ≡ []

-- Its pass is made, and not taken in.
pub record KnowsRun (opened : Opened) (run : List Event) (view : PassView) : Type 0 where
  pub mount : view.opened ≡ opened
  pub all : SeesAll view.number view.run run
  pub made : view.number ≤ (state_of opened view.run).made
  pub there : IsOneOf (state_of opened run).ended view.number → ⊥
