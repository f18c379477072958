-- Page work: what a pass does between two steps with the buffers and the store that it owns.
use Rattle.std.specs.Prelude.{◌≡◌, ℕ, ◌+◌, ◌++◌, true, false, List, [], length, drop, Option, Some, None}
use Rattle.nv_plain.specs.Faults.{Rose}
use Rattle.nv_plain.specs.Files.{bytes_at}
use Rattle.nv_core.specs.state.Words.{Sizes, Word, PAGE, slot_of_entry}
use Rattle.nv_core.specs.state.Values.{Value, PageRead, Failed, called, faults_of, is_valid, bytes_in, emptied, received, filled, patched}
use Rattle.nv_core.specs.log.FittingPieces.{PieceFits}
use Rattle.nv_core.specs.steps.Order.{Values}
use Rattle.nv_core.specs.invariant.Rooms.{KeepsReady}
use Rattle.nv_core.specs.state.Core.{with_value}
use Rattle.nv_table.specs.state.Views.{OwnsSlots}
use Rattle.nv_table.specs.state.States.{PassState}
use Rattle.nv_pages.specs.Altered.{IsAltered}

-- the slots of a page's buffer and of a file's store
abbrev pub page_slot : Sizes → (page : ℕ) → ℕ
page_slot sizes page = 1 + sizes.entries + sizes.files + page

abbrev pub store_slot : Sizes → (file : ℕ) → ℕ
store_slot sizes file = 1 + sizes.entries + file

-- that of the part of a number's entry
abbrev pub entry_slot : Sizes → (number : ℕ) → ℕ
entry_slot sizes number = 1 + slot_of_entry sizes number

-- something is so, whatever the pass's cells are, of what they keep
abbrev pub OfKept : (pass : PassState) → (Values → Type 0) → Type 0
OfKept pass P = (kept : Values) (cells : List Word) → OwnsSlots pass.view.opened.sizes (λ value. value) kept cells pass.now → P kept

-- ---- what is made of buffers

-- Where the buffer of a cell is valid, its bytes from an offset on are in front, as many as there are and as there is room for; else nothing has changed.
abbrev pub IsCopied : Value → (at : ℕ) → (old new : List ℕ) → Option ℕ → Type 0
IsCopied value at old new (Some count) =
    (is_valid value ≡ true) × (count ≡ length (bytes_at (bytes_in value) at (length old))) × (new ≡ bytes_at (bytes_in value) at (length old) ++ drop count old)
IsCopied value at old new None = (is_valid value ≡ false) × (new ≡ old)

-- a page's bytes are in its buffer, if it has one
abbrev pub with_page : (page : ℕ) → List ℕ → Values → Values
with_page page bytes kept = with_value kept (PAGE page) (filled bytes (kept (PAGE page)))

-- a piece is laid over its buffer, where that counts
abbrev pub with_patch : (page at : ℕ) → List ℕ → Values → Values
with_patch page at bytes kept = with_value kept (PAGE page) (patched at bytes (kept (PAGE page)))

-- the buffer of a victim, if it has one, is the page's where that lacks one, and doesn't count there
abbrev pub robbed : (victim page : ℕ) → Values → Values
robbed victim page kept = with_value (with_value kept (PAGE page) (received (kept (PAGE victim)) (kept (PAGE page)))) (PAGE victim) (emptied (kept (PAGE victim)))

-- ---- a read of a device

-- a part has an entry's lines, and says a piece that lies in one page, if it tells anything
abbrev pub IsReadable : Sizes → Value → Type 0
IsReadable sizes value = KeepsReady sizes value × PieceFits sizes value

-- It failed: the device's count rose, and nothing else has changed.
pub record HasFailedCall (cell : Word) (old new : PassState) : Type 0 where
  pub faults : ℕ
  pub rose : OfKept old (λ kept. Rose (faults_of (kept cell)) faults)
  pub altered : IsAltered (λ kept. with_value kept cell (called (PageRead 0 []) (Failed false faults) (kept cell))) old new
