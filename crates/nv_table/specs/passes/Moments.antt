-- Moments: what the table's invariant says at one moment of a pass and of an exported view.
use Rattle.std.specs.Prelude.{List, [], ◌∷◌, length, nat_lt, if◌then◌else◌}
use Rattle.nv_core.specs.invariant.OneHistory.{IsPrefix}
use Rattle.nv_core.specs.steps.Events.{Event}
use Rattle.nv_table.specs.passes.Seats.{exported}
use Rattle.nv_table.specs.state.Opened.{IsRunOf}
use Rattle.nv_table.specs.state.Views.{AllBegin, KnowsRun, PassView}

-- There was a moment at which the run so far began with an exported one, and in which the pass had seen all of its own.
pub record SharesMoment (view : PassView) (exported : List Event) : Type 0 where
  pub run : List Event
  pub is_run : IsRunOf view.opened run
  pub knows : KnowsRun view.opened run view
  pub begins : IsPrefix exported run

-- ---- of a seat that has imported the view

-- the run that it was told last
abbrev pub last_told : List (List Event) → List Event
last_told [] = []
last_told (last ∷ before) = last

abbrev pub told_before : List (List Event) → List (List Event)
told_before [] = []
told_before (last ∷ before) = before

-- the seat as if it had not been told that one
abbrev pub forgetful : PassView → PassView
forgetful view = record view { told = told_before view.told }

-- the longer of two runs
abbrev pub longer : (one other : List Event) → List Event
longer one other = if nat_lt (length one) (length other) then other else one

-- and an exported view of what that one told it, or of what it has seen itself, where that is more
abbrev pub told_back : PassView → PassView
told_back view = record (exported view) { run = longer view.run (last_told view.told) }

-- At some moment the run so far began with all runs that a seat was told.
pub record SeesTold (view : PassView) : Type 0 where
  pub run : List Event
  pub is_run : IsRunOf view.opened run
  pub knows : KnowsRun view.opened run view
  pub told : AllBegin view.told run
