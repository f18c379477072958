-- Events by the kinds of their steps: the same as events by the table of next steps, for the proofs that go by kinds.
use Rattle.std.proofs.Common.{◌≡◌, ◌≢◌, ℕ, ◌≤◌, true}
use Rattle.nv_core.specs.state.Words.{Sizes, Word, keeps_something}
use Rattle.nv_core.specs.state.Passes.{IsOneOf, times}
use Rattle.nv_core.specs.steps.Ops.{Op, Split, PutBack, Join, word_of}
use Rattle.nv_core.specs.steps.Order.{CallEnabled}
use Rattle.nv_core.specs.steps.StepKinds.{EnabledByKind}
use Rattle.nv_core.specs.state.Core.{Core, after_begin}
use Rattle.nv_core.specs.steps.Events.{Act, BeginsCall, TakesStep, CallsDevice, Event, CallMayBegin, IsStaying, StepEnabled, FoundEnabled, ActEnabled, EventEnabled}
use Rattle.nv_core.proofs.steps.NextSteps.{steps_are_next, next_steps_may_come}

abbrev pub StepEnabledByKind : Sizes → (by : ℕ) → Core → Op → Type 0
StepEnabledByKind sizes by core Split = by ≡ 0
StepEnabledByKind sizes by core (PutBack cell) = times cell (core.passes by).owned ≢ times cell (core.passes by).left
StepEnabledByKind sizes by core (Join number) =
    (by ≡ 0) × (number ≢ 0) × (number ≤ core.made) × (IsOneOf core.ended number → ⊥)
    × ((cell : Word) → keeps_something cell ≡ true → times cell (core.passes number).left ≡ times cell (core.passes number).owned)
StepEnabledByKind sizes by core op = EnabledByKind sizes core.values (core.passes by) op

pub record FoundEnabledByKind (sizes : Sizes) (by : ℕ) (core : Core) (op : Op) (found : ℕ) : Type 0 where
  pub may : StepEnabledByKind sizes by core op
  pub is : core.words (word_of sizes (core.passes by) op) ≡ found

abbrev pub ActEnabledByKind : Sizes → (by : ℕ) → Core → Act → Type 0
ActEnabledByKind sizes by core (BeginsCall call op found) = CallMayBegin sizes call (core.passes by) × FoundEnabledByKind sizes by (after_begin sizes by call core) op found
ActEnabledByKind sizes by core (TakesStep op found) = FoundEnabledByKind sizes by core op found
ActEnabledByKind sizes by core (CallsDevice work) = CallEnabled sizes core.values (core.passes by) work

pub record MayCome (sizes : Sizes) (event : Event) (core : Core) : Type 0 where
  pub made : event.by ≤ core.made
  pub there : IsOneOf core.ended event.by → ⊥
  pub staying : IsStaying event.act (core.passes event.by)
  pub act : ActEnabledByKind sizes event.by core event.act

-- ---- from the table

pub do_kind : (sizes : Sizes) (by : ℕ) (core : Core) (op : Op) → StepEnabled sizes by core op → StepEnabledByKind sizes by core op
do_kind sizes by core Split may = may
do_kind sizes by core (PutBack cell) may = may
do_kind sizes by core (Join number) may = may
do_kind sizes by core op may = next_steps_may_come sizes core.values (core.passes by) op may

pub find_kind : (sizes : Sizes) (by : ℕ) (core : Core) (op : Op) (found : ℕ) → FoundEnabled sizes by core op found → FoundEnabledByKind sizes by core op found
find_kind sizes by core op found finds = record { may = do_kind sizes by core op finds.may; is = finds.is }

pub act_kind : (sizes : Sizes) (by : ℕ) (core : Core) (act : Act) → ActEnabled sizes by core act → ActEnabledByKind sizes by core act
act_kind sizes by core (BeginsCall call op found) may = (may.0, find_kind sizes by (after_begin sizes by call core) op found may.1)
act_kind sizes by core (TakesStep op found) may = find_kind sizes by core op found may
act_kind sizes by core (CallsDevice work) may = may

pub come_kind : (sizes : Sizes) (event : Event) (core : Core) → EventEnabled sizes event core → MayCome sizes event core
come_kind sizes event core come = record { made = come.made; there = come.there; staying = come.staying; act = act_kind sizes event.by core event.act come.act }

-- ---- and to it

pub do_next : (sizes : Sizes) (by : ℕ) (core : Core) (op : Op) → StepEnabledByKind sizes by core op → StepEnabled sizes by core op
do_next sizes by core Split may = may
do_next sizes by core (PutBack cell) may = may
do_next sizes by core (Join number) may = may
do_next sizes by core op may = steps_are_next sizes core.values (core.passes by) op may

pub find_next : (sizes : Sizes) (by : ℕ) (core : Core) (op : Op) (found : ℕ) → FoundEnabledByKind sizes by core op found → FoundEnabled sizes by core op found
find_next sizes by core op found finds = record { may = do_next sizes by core op finds.may; is = finds.is }

pub act_next : (sizes : Sizes) (by : ℕ) (core : Core) (act : Act) → ActEnabledByKind sizes by core act → ActEnabled sizes by core act
act_next sizes by core (BeginsCall call op found) may = (may.0, find_next sizes by (after_begin sizes by call core) op found may.1)
act_next sizes by core (TakesStep op found) may = find_next sizes by core op found may
act_next sizes by core (CallsDevice work) may = may

pub come_next : (sizes : Sizes) (event : Event) (core : Core) → MayCome sizes event core → EventEnabled sizes event core
come_next sizes event core come = record { made = come.made; there = come.there; staying = come.staying; act = act_next sizes event.by core event.act come.act }
