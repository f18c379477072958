-- Complete runs: what is known of a run when the table is closed.
use Rattle.std.specs.Prelude.{◌≡◌, ℕ, ◌<◌, List, [], length, slice_index_or}
use Rattle.nv_core.specs.state.Words.{TAIL}
use Rattle.nv_core.specs.state.Values.{Value, Bare}
use Rattle.nv_core.specs.state.Passes.{IsOneOf}
use Rattle.nv_core.specs.steps.Events.{Event, own}
use Rattle.nv_table.specs.state.Layout.{slot_total, cell_of}
use Rattle.nv_table.specs.state.Opened.{IsRunOf, state_of}
use Rattle.nv_table.specs.state.Views.{Past, PassView, AllBegin, SeesAll, KnowsRun, pass_of, past_pass}

-- The run of all passes, and what the slots hold. Of each pass all its own events are known, and so where it stands: of pass 0, of those that
-- it took in, and there are no others, where all that got a seat were taken in.
pub record IsCompleteRun (view : PassView) (slots : List Value) (placed tail : ℕ) : Type 0 where
  pub run : List Event
  pub is_run : IsRunOf view.opened run
  pub knew : KnowsRun view.opened run view
  pub imported : AllBegin view.told run
  pub pass : (state_of view.opened run).passes view.number ≡ pass_of view
  pub ended : (past : Past) → IsOneOf view.ended past → SeesAll past.number past.run run × ((state_of view.opened run).passes past.number ≡ past_pass view.opened past)
  pub unborn : (number : ℕ) → view.seated < number → own number run ≡ []
  pub each : (slot : ℕ) → slot < slot_total view.opened.sizes → slice_index_or slots slot Bare ≡ (state_of view.opened run).values (cell_of view.opened.sizes slot)
  pub order : placed ≡ length (state_of view.opened run).history
  pub retired : tail ≡ (state_of view.opened run).words TAIL
