-- Whole runs: what comes out of a mount that is closed, over the run as pass 0 saw it last.
use Rattle.std.specs.Prelude.{◌≡◌, ◌≢◌, ℕ, ◌<◌, ◌≤◌, List, [], length, slice_index_or}
use Rattle.nv_plain.specs.Histories.{Answered}
use Rattle.nv_core.specs.state.Passes.{IsOneOf}
use Rattle.nv_core.specs.state.Values.{Value, Bare}
use Rattle.nv_core.specs.state.Words.{TAIL, STORE}
use Rattle.nv_core.specs.steps.Events.{own}
use Rattle.nv_table.specs.state.Layout.{cell_of}
use Rattle.nv_table.specs.state.Opened.{IsRunOf, state_of}
use Rattle.nv_table.specs.state.Views.{Past, PassView, SeesAll, values_of}
use Rattle.nv_mount.specs.LoneWords.{word_then}

-- the history as a pass saw it last
abbrev pub history_then : PassView → List Answered
history_then view = (state_of view.opened view.run).history

-- A mount is closed by a pass that has taken in all others: then what it has seen is the whole run. It and each that it took in lie in it with all
-- their events, and nobody else has any. Its history has so many calls, and its TAIL is the tail that comes out. What comes out as parts and as
-- stores shows what their cells kept at the end of that run: part 0 is the header's, and part 1 + i that of entry i.
pub record IsWholeRun (view : PassView) (parts stores : List Value) (placed tail : ℕ) : Type 0 where
  pub is_run : IsRunOf view.opened view.run
  pub joined : (past : Past) → IsOneOf view.ended past → SeesAll past.number past.run view.run
  pub others : (number : ℕ) → number ≢ view.number → ((past : Past) → IsOneOf view.ended past → past.number ≢ number) → own number view.run ≡ []
  pub count : placed ≡ length (history_then view)
  pub tail_is : tail ≡ word_then view TAIL
  pub parts_show : (i : ℕ) → i ≤ view.opened.sizes.entries → slice_index_or parts i Bare ≡ values_of view (cell_of view.opened.sizes i)
  pub stores_show : (file : ℕ) → file < view.opened.sizes.files → slice_index_or stores file Bare ≡ values_of view (STORE file)
