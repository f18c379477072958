-- Begun: what a board and its first pass are when they are made.
use Rattle.std.specs.Prelude.{◌≡◌, ℕ, ◌+◌, ◌*◌, ◌≤◌, min, List, [], length, map, drop}
use Rattle.nv_core.specs.state.Words.{Sizes}
use Rattle.nv_core.specs.state.Values.{Value}
use Rattle.nv_table.specs.declared.slot.Slot.{Slot}
use Rattle.nv_table.specs.declared.slot.Slot.TheVariants.{Part}
use Rattle.nv_table.specs.ends.OpeningSlots.{AreOpeningSlots}
use Rattle.nv_table.specs.state.Views.{first_view}
use Rattle.nv_table.specs.state.States.{BoardState, PassState, IsOf}

-- so many files of so many pages, and a buffer for each of their pages, up to so many
abbrev pub begun_sizes : (page entries files pages cache : ℕ) → Sizes
begun_sizes page entries files pages cache = record { page = page; files = files; pages = pages; entries = entries; buffers = min cache (files * pages) }

-- The board is of these sizes, next number and lengths. Its slots hold the first parts, the stores and fresh buffers. Its pass is pass 0, which has
-- seen nothing and owns nothing, and keeps the other parts, which are spare.
pub record IsBegun {L B : Type 0} (shown : Slot L B → Value) (sizes : Sizes) (next : ℕ) (lengths : List ℕ) (parts : List L) (stores : List B)
    (board : BoardState) (pass : PassState) : Type 0 where
  pub sizes_are : board.opened.sizes ≡ sizes
  pub next_is : board.opened.next ≡ next
  pub lengths_are : board.opened.lengths ≡ lengths
  pub slots : List (Slot L B)
  pub are_slots : AreOpeningSlots sizes parts stores slots
  pub slots_show : board.opened.slots ≡ map shown slots
  pub pass_of_board : IsOf board pass
  pub view : pass.view ≡ first_view board.opened
  pub nothing : pass.now ≡ []
  pub spare : pass.spare ≡ map (λ part. shown (Part part)) (drop (1 + sizes.entries) parts)

-- ---- what is so of a board from its beginning on

-- Its slots held parts, stores and buffers when it was made.
pub record BeganFilled {L B : Type 0} (sizes : Sizes) (slots : List (Slot L B)) : Type 0 where
  pub parts : List L
  pub stores : List B
  pub many_parts : 1 + sizes.entries ≤ length parts
  pub many_stores : length stores ≡ sizes.files
  pub are_slots : AreOpeningSlots sizes parts stores slots
