-- The table's invariant: what is so of its words, slots and seats between any two steps.
use Rattle.std.specs.Prelude.{◌≡◌, ◌⊎◌, ℕ, ◌<◌, ◌≤◌, ◌^◌, true, List, [], length, drop, slice_index}
use mathlib.Core.Option.{Option as Home, none, some}
use lib.ListN.{get_elem?}
use Rattle.atomic_table.specs.Table.{State}
use Rattle.nv_core.specs.state.Words.{Word, IsWord, keeps_something, place}
use Rattle.nv_core.specs.state.Values.{Value}
use Rattle.nv_core.specs.state.Passes.{IsOneOf, times}
use Rattle.nv_core.specs.invariant.OneHistory.{IsPrefix}
use Rattle.nv_core.specs.state.Core.{Core}
use Rattle.nv_core.specs.steps.Events.{Event, own}
use Rattle.nv_core.specs.steps.Opening.{IsMount}
use Rattle.nv_table.specs.state.Layout.{word_total, slot_total, cell_of}
use Rattle.nv_table.specs.state.Opened.{Opened, mount_of, IsRunOf, state_of}
use Rattle.nv_table.specs.state.Views.{Past, PassView, still_owned, past_pass, numbers, AreDistinctNumbers, AllBegin, SeesAll, KnowsRun}

-- A slot is at home, and holds what its cell keeps, where no pass owns the cell; or it is out with a pass.
pub data IsKept {S : Type 0} (shown : S → Value) (core : Core) (cell : Word) (home : Home (Home S)) : Type 0 where
  AtHome : (held : S) → home ≡ some (some held) → shown held ≡ core.values cell → ((number : ℕ) → times cell (still_owned (core.passes number)) ≡ 0)
      → IsKept shown core cell home
  OutWith : (by : ℕ) → home ≡ some none → times cell (still_owned (core.passes by)) ≡ 1 → IsKept shown core cell home

-- A pass that was taken in is one that got a seat; all of its events have come, and it owns nothing that a slot holds.
pub record IsTakenInWhole (opened : Opened) (run : List Event) (seated : ℕ) (past : Past) : Type 0 where
  pub some : 1 ≤ past.number
  pub within : past.number ≤ seated
  pub all : SeesAll past.number past.run run
  pub made : past.number ≤ (state_of opened past.run).made
  pub bare : (cell : Word) → keeps_something cell ≡ true → times cell (still_owned (past_pass opened past)) ≡ 0

-- What pass 0's seat keeps of the others. Seats are of numbers that have got one, and no event is of another number. Those that were taken in
-- are over, have no seat, and are the core's, but for the last of them on its way in.
pub record KeeperKnows (opened : Opened) (run : List Event) (views : List PassView) (keeper : PassView) : Type 0 where
  pub seated : (seat : ℕ) (view : PassView) → get_elem? views seat ≡ some view → view.live ≡ true → view.number ≤ keeper.seated
  pub unborn : (number : ℕ) → keeper.seated < number → own number run ≡ []
  pub ended : (past : Past) → IsOneOf keeper.ended past → IsTakenInWhole opened run keeper.seated past
  pub gone : (past : Past) → IsOneOf keeper.ended past → (seat : ℕ) (view : PassView)
      → get_elem? views seat ≡ some view → view.live ≡ true → view.number ≡ past.number → ⊥
  pub once : AreDistinctNumbers (numbers keeper.ended)
  pub taken : ((state_of opened run).ended ≡ numbers keeper.ended) ⊎ ((state_of opened run).ended ≡ numbers (drop 1 keeper.ended))

-- The words and the slots at home are those of the state that some run leads to, and the seats see first parts of that run.
pub record TableInvariant {S : Type 0} (shown : S → Value) (opened : Opened) (state : State S PassView) : Type 0 where
  pub mount : IsMount (mount_of opened)
  pub run : List Event
  pub is_run : IsRunOf opened run
  pub few : (state_of opened run).made ≤ 2 ^ 32
  pub count : length state.words ≡ word_total opened.sizes
  pub words : (word : Word) → IsWord opened.sizes word → slice_index state.words (place opened.sizes word) ≡ (state_of opened run).words word
  pub homes : (slot : ℕ) → slot < slot_total opened.sizes → IsKept shown (state_of opened run) (cell_of opened.sizes slot) (get_elem? state.homes slot)
  pub seen : (seat : ℕ) (view : PassView) → get_elem? state.views seat ≡ some view → IsPrefix view.run run × AllBegin view.told run
  pub knows : (seat : ℕ) (view : PassView) → get_elem? state.views seat ≡ some view → view.live ≡ true → KnowsRun opened run view
  pub apart : (one other : ℕ) (view view_other : PassView) → get_elem? state.views one ≡ some view → get_elem? state.views other ≡ some view_other
      → view.live ≡ true → view_other.live ≡ true → view.number ≡ view_other.number → one ≡ other
  pub keeper : (seat : ℕ) (view : PassView) → get_elem? state.views seat ≡ some view → view.live ≡ true → view.number ≡ 0
      → KeeperKnows opened run state.views view
