-- Seats: how a seat is made, told, taken in and given up, beside the steps of its pass.
use Rattle.std.specs.Prelude.{◌≡◌, ◌≢◌, ℕ, ◌<◌, ◌^◌, false, List, [], ◌∷◌, ◌++◌}
use Rattle.atomic_table.specs.Table.{Me}
use Rattle.nv_core.specs.state.Words.{Word}
use Rattle.nv_core.specs.state.Values.{Value}
use Rattle.nv_core.specs.state.Passes.{Pass, times}
use Rattle.nv_core.specs.steps.PassSteps.{left_after}
use Rattle.nv_core.specs.state.Core.{made_stepped, ended_stepped}
use Rattle.nv_core.specs.steps.Ops.{Op, PutBack}
use Rattle.nv_core.specs.steps.Frames.{AgreeOn}
use Rattle.nv_core.specs.steps.Events.{TakesStep, Event}
use Rattle.nv_table.specs.state.Layout.{slot_of_cell}
use Rattle.nv_table.specs.state.Opened.{IsRunOf}
use Rattle.nv_table.specs.state.Views.{Past, PassView, pass_of, values_of, made_of, ended_of, still_owned, numbers, AllBegin, OwnsSlots, KnowsRun}
use Rattle.nv_table.specs.steps.SeatSteps.{went, IsFirst}

-- ---- a new pass: pass 0 has made it, and its seat is cut from pass 0's

abbrev pub parent : PassView → PassView
parent view = record view { seated = made_of view }

abbrev pub child : PassView → PassView
child view = record view { number = made_of view; told = []; seated = 0; ended = [] }

-- ---- an exported view: the run so far, which one pass tells another

abbrev pub exported : PassView → PassView
exported view = record view { live = false; told = []; seated = 0; ended = [] }

abbrev pub imported : PassView → PassView → PassView
imported view other = record view { told = other.run ∷ view.told }

-- ---- a pass is taken in

abbrev pub past_of : PassView → Past
past_of view = record { number = view.number; run = view.run }

abbrev pub joined : PassView → PassView → PassView
joined view other = record view { ended = past_of other ∷ view.ended }

-- what is left of a seat that was given up
abbrev pub spent : PassView
spent = record {
  opened = record { sizes = record { page = 0; files = 0; pages = 0; entries = 0; buffers = 0 }; next = 0; lengths = []; slots = [] };
  number = 0;
  live = false;
  run = [];
  told = [];
  seated = 0;
  ended = [];
}

-- ---- the steps between passes, each a load of STOP

-- what such a step makes of the pass itself
abbrev pub after_passing : Op → Pass → Pass
after_passing op pass = record pass { left = left_after pass op }

-- such a step of a seat, which found this, and what the seat knows then; and of pass 0 how many passes there are then, and which were taken in
pub record PassingTells (old : PassView) (op : Op) (found : ℕ) (new : PassView) : Type 0 where
  pub run : List Event
  pub is_run : IsRunOf old.opened (run ++ record { by = old.number; act = TakesStep op found } ∷ [])
  pub knew : KnowsRun old.opened run old
  pub told : AllBegin old.told run
  pub is : new ≡ record old { run = run ++ record { by = old.number; act = TakesStep op found } ∷ [] }
  pub knows : KnowsRun old.opened new.run new
  pub pass : pass_of new ≡ after_passing op (pass_of old)
  pub kept : AgreeOn (pass_of old) (values_of new) (values_of old)
  pub made : old.number ≡ 0 → made_of new ≡ made_stepped op (made_of old)
  pub ended : old.number ≡ 0 → ended_of new ≡ ended_stepped op (ended_of old)

-- pass 0 may make another pass, where it has fewer than 2^32 and each has its seat
pub record MaySplit (view : PassView) : Type 0 where
  pub zero : view.number ≡ 0
  pub staying : (pass_of view).left ≡ []
  pub few : made_of view < 2 ^ 32
  pub all : made_of view ≡ view.seated

-- a pass may put back what a cell that it owns keeps
pub record MayPutBack {S : Type 0} (shown : S → Value) (old : Me S PassView) (cell : Word) : Type 0 where
  pub owns_slots : OwnsSlots old.0.opened.sizes shown (values_of old.0) (still_owned (pass_of old.0)) old.1
  pub has : times cell (still_owned (pass_of old.0)) ≢ 0
  pub front : IsFirst (slot_of_cell old.0.opened.sizes cell) old.1

-- it has put it back, and what it found before goes on
pub record HasPutBack {S : Type 0} (shown : S → Value) (old : Me S PassView) (cell : Word) (found : ℕ) (new : Me S PassView) : Type 0 where
  pub passed : PassingTells old.0 (PutBack cell) found new.0
  pub went : went (slot_of_cell old.0.opened.sizes cell) old.1 new.1
  pub owns_slots : OwnsSlots old.0.opened.sizes shown (values_of new.0) (still_owned (pass_of new.0)) new.1

-- pass 0 may take in the pass whose seat it has taken last
pub record MayJoin (view : PassView) (past : Past) (before : List Past) : Type 0 where
  pub zero : view.number ≡ 0
  pub staying : (pass_of view).left ≡ []
  pub last : view.ended ≡ past ∷ before
  pub fresh : ended_of view ≡ numbers before
