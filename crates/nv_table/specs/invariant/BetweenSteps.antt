-- Between steps: what is so of a pass between its steps.
use Rattle.std.specs.Prelude.{◌≡◌, ◌≢◌, ℕ, ◌+◌, ◌<◌, ◌≤◌, ◌^◌, true, List, [], length, map, Option}
use Rattle.nv_core.specs.state.Words.{Sizes}
use Rattle.nv_core.specs.state.Passes.{IsOneOf, times}
use Rattle.nv_core.specs.steps.Opening.{IsMount}
use Rattle.nv_table.specs.invariant.Drawn.{lost_of, drawn_of}
use Rattle.nv_table.specs.state.Layout.{slot_total, cell_of}
use Rattle.nv_table.specs.state.Opened.{mount_of, IsRunOf, state_of}
use Rattle.nv_table.specs.state.Views.{Past, PassView, SeesAll, KnowsRun, pass_of, made_of, ended_of, still_owned, numbers, slot_times}

-- Those that it took in are those of the core, each is one that was made, and they lie with all their events in what it has seen.
pub record KnowsTaken (view : PassView) : Type 0 where
  pub same : ended_of view ≡ numbers view.ended
  pub made : (past : Past) → IsOneOf view.ended past → past.number ≤ (state_of view.opened past.run).made
  pub behind : (past : Past) → IsOneOf view.ended past → SeesAll past.number past.run view.run

-- pass 0 knows how many passes it has made, each of which has got a seat, and those that it took in
pub record IsKeeper (view : PassView) (made joined : ℕ) : Type 0 where
  pub made_is : made_of view ≡ made
  pub seated : view.seated ≡ made
  pub few : made ≤ 2 ^ 32
  pub taken : KnowsTaken view
  pub count : joined ≡ length view.ended

-- The seat is a pass's, and what it has taken are the slots of the cells that its pass owns; it has written down which they are, and has room
-- to write down any.
pub record IsPass {S : Type 0} (view : PassView) (slots : List (ℕ × S)) (number made joined : ℕ) (held : List ℕ) (room : ℕ) (drawn lost : Option ℕ) : Type 0 where
  pub live : view.live ≡ true
  pub number_is : number ≡ view.number
  pub mount : IsMount (mount_of view.opened)
  pub run : IsRunOf view.opened view.run
  pub known : KnowsRun view.opened view.run view
  pub keeper : view.number ≡ 0 → IsKeeper view made joined
  pub within : (slot : ℕ) → slot_total view.opened.sizes ≤ slot → slot_times slot slots ≡ 0
  pub each : (slot : ℕ) → slot < slot_total view.opened.sizes → slot_times slot slots ≡ times (cell_of view.opened.sizes slot) (still_owned (pass_of view))
  pub written : map (λ one. one.0) slots ≡ held
  pub roomy : slot_total view.opened.sizes ≤ room
  pub drawn_is : drawn ≡ drawn_of (pass_of view)
  pub lost_is : lost ≡ lost_of (pass_of view).faulted

-- Pass 0 keeps the parts that have no slot, and places for all parts and all stores to come back; the other passes keep none. No store is there.
pub record HasPlacesBack {L B : Type 0} (sizes : Sizes) (number : ℕ) (parts : List L) (part_places : ℕ) (stores : List B) (store_places : ℕ) : Type 0 where
  pub for_parts : number ≡ 0 → 1 + sizes.entries + length parts ≤ part_places
  pub for_stores : number ≡ 0 → sizes.files ≤ store_places
  pub no_part : number ≢ 0 → parts ≡ []
  pub no_store : stores ≡ []
