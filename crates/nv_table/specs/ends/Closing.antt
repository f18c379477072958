-- Closing: what comes back when a board is closed.
use Rattle.std.specs.Prelude.{◌≡◌, ℕ, ◌+◌, ◌≤◌, ◌++◌, List, length, map, take, drop, Option}
use Rattle.nv_core.specs.state.Words.{Word}
use Rattle.nv_core.specs.state.Values.{Value, identity_of}
use Rattle.nv_table.specs.declared.slot.Slot.{Slot}
use Rattle.nv_table.specs.declared.slot.Slot.TheVariants.{Part}
use Rattle.nv_table.specs.declared.slot.PageBuffer.{PageBuffer}
use Rattle.nv_table.specs.passes.PassesMade.{PutsBack}
use Rattle.nv_table.specs.state.Layout.{slot_total}
use Rattle.nv_table.specs.ends.OpeningSlots.{in_slots}
use Rattle.nv_table.specs.state.Views.{PassView}
use Rattle.nv_table.specs.state.States.{BoardState, PassState}
use Rattle.nv_table.specs.ends.CompleteRuns.{IsCompleteRun}

-- Pass 0 has put back what it owned, and then all that the slots held has come out: the parts with a slot, those that have none behind them, and
-- the stores, in the order in which they came in. They are the same devices, and those that have no slot show what they showed.
pub record IsClosed {L B : Type 0} (part_device : L → ℕ) (store_device : B → ℕ) (shown : Slot L B → Value) (board : BoardState) (pass : PassState)
    (parts : List L) (stores : List B) (placed tail : ℕ) : Type 0 where
  pub cells : List (Word × ℕ)
  pub last : PassView
  pub back : PutsBack cells pass.view last
  pub many_parts : 1 + board.opened.sizes.entries ≤ length parts
  pub many_stores : length stores ≡ board.opened.sizes.files
  pub many_slots : length board.opened.slots ≡ slot_total board.opened.sizes
  pub buffers : List (Option PageBuffer)
  pub whole : IsCompleteRun last (map shown (in_slots (take (1 + board.opened.sizes.entries) parts) stores buffers)) placed tail
  pub same_parts : map part_device parts ≡ map identity_of (take (1 + board.opened.sizes.entries) board.opened.slots) ++ map identity_of pass.spare
  pub same_spare : map (λ part. shown (Part part)) (drop (1 + board.opened.sizes.entries) parts) ≡ pass.spare
  pub same_stores : map store_device stores ≡ map identity_of (take board.opened.sizes.files (drop (1 + board.opened.sizes.entries) board.opened.slots))
