-- Cleaning: a batch of a cleaner as the core has it, and the machine that runs it.
use Rattle.std.specs.Prelude.{◌≡◌, ◌≢◌, ℕ, ◌+◌, ◌-◌, ◌<◌, ◌≤◌, ◌==◌, ◌^◌, Bool, true, false, if◌then◌else◌, List, [], ◌∷◌, length, Option, Some, None, Result, Ok, Err, filter}
use Rattle.std.specs.List.{list_any, range_with_len}
use Rattle.nv_plain.specs.Layouts.{mount_layout}
use Rattle.nv_core.specs.state.Words.{Sizes, Word, ENTRY, STORE, page_total, slot_of_entry}
use Rattle.nv_core.specs.state.Cleaner.{Batch, CleanerControl}
use Rattle.nv_core.specs.state.Cleaner as cleaner
use Rattle.nv_core.specs.state.Passes.{Control, Idle, Cleaning, times}
use Rattle.nv_core.specs.state.Values.{CallEnding, Made, Failed, Refused}
use Rattle.nv_core.specs.steps.CleanerSteps.{each_next, group_file, group_page, holds_store, new_batch, rising_files, syncing}
use Rattle.nv_table.specs.invariant.Idle.{IsIdle, IsLater}
use Rattle.nv_table.specs.passes.PassesMade.{IsShownStill}
use Rattle.nv_table.specs.state.Views.{OwnsSlots, pass_of, values_of, still_owned}
use Rattle.nv_table.specs.steps.SeatSteps.{AreDue, pass_worked, values_before}
use Rattle.nv_core.specs.steps.Order.{SaysPieceOf, Work}
use Rattle.nv_core.specs.invariant.Shapes.{IsStore}
use Rattle.nv_store.specs.declared.backing.StoreError.{StoreError}
use Rattle.nv_store.specs.declared.backing.StoreError.TheVariants.{Fault, NoMemory}
use Rattle.nv_table.specs.state.States.{PassState}
use Rattle.nv_mirror.specs.Answers.{IsUnplaced}
use Rattle.nv_mirror.specs.PassSteps.{PassStep, HasMade, IsBetweenSteps, either_of}
use Rattle.nv_clean.specs.declared.batch.CleanControl.{CleanControl}
use Rattle.nv_clean.specs.declared.batch.CleanControl.TheVariants as cleans
use Rattle.nv_clean.specs.declared.batch.CleanRefusal.{CleanRefusal}
use Rattle.nv_clean.specs.declared.batch.CleanRefusal.TheVariants as refusals
use Rattle.nv_clean.specs.OwnSteps.{AreOwn}
use Rattle.nv_clean.specs.OwnedCells.{most_cells}

-- what contracts see of a machine: the core's batch, the cells that its pass owns, where it stands, and why it is refused, if it is
pub record CleanState : Type 0 where
  pub batch : Batch
  pub owned : List Word
  pub control : CleanControl
  pub refusal : Option CleanRefusal

-- the files from one on whose STORE the batch holds, rising
abbrev pub files_from : Sizes → Batch → (from : ℕ) → List ℕ
files_from sizes batch from = filter (holds_store batch) (range_with_len from (sizes.files - from))

-- the core's control state; none before the first step and after the last
abbrev pub control_at : Sizes → Batch → CleanControl → Control
control_at sizes batch cleans.Begin = Idle
control_at sizes batch cleans.TakeHeader = Cleaning batch cleaner.TakeHeader
control_at sizes batch cleans.LoadStop = Cleaning batch cleaner.LoadStop
control_at sizes batch cleans.LoadTail = Cleaning batch cleaner.LoadTail
control_at sizes batch cleans.LoadHead = Cleaning batch cleaner.LoadHead
control_at sizes batch (cleans.LoadEntry at) = Cleaning batch (cleaner.LoadEntry at)
control_at sizes batch (cleans.TakeCleanup at) = Cleaning batch (cleaner.TakeCleanup at)
control_at sizes batch cleans.TakeStore = Cleaning batch cleaner.TakeStore
control_at sizes batch (cleans.HoldEntry at) = Cleaning batch (cleaner.HoldEntry at)
control_at sizes batch (cleans.WriteBack at) = Cleaning batch (cleaner.ReadPiece at)
control_at sizes batch (cleans.CleanEntry at) = Cleaning batch (cleaner.CleanEntry at)
control_at sizes batch (cleans.SubtractDirty at) = Cleaning batch (cleaner.SubtractDirty at)
control_at sizes batch (cleans.GiveCleanup at) = Cleaning batch (cleaner.GiveCleanup at)
control_at sizes batch (cleans.ReturnEntry at end) = Cleaning batch (cleaner.RefusedReturnEntry at end)
control_at sizes batch (cleans.ReturnFailed at end) = Cleaning batch (cleaner.FailedReturnEntry at end)
control_at sizes batch (cleans.UndoCleanup at) = Cleaning batch (cleaner.RefusedGiveCleanup at)
control_at sizes batch cleans.Retire = syncing batch (rising_files sizes batch)
control_at sizes batch (cleans.FreeEntry number) = Cleaning batch (cleaner.FreeEntry number)
control_at sizes batch cleans.AdvanceTail = Cleaning batch cleaner.AdvanceTail
control_at sizes batch (cleans.GiveStore file) = Cleaning batch (cleaner.GiveStores (file ∷ files_from sizes batch (file + 1)))
control_at sizes batch cleans.GiveHeader = Cleaning batch cleaner.GiveHeader
control_at sizes batch cleans.GiveCleaner = Cleaning batch cleaner.GiveCleaner
control_at sizes batch cleans.GiveBack = Cleaning batch cleaner.GiveBack
control_at sizes batch cleans.Over = Idle

abbrev pub control_of : Sizes → CleanState → Control
control_of sizes m = control_at sizes m.batch m.control

-- ---- what is so of its numbers by where it stands

-- what it has cleaned lies behind its tail, and are numbers of a log
pub record IsLow (batch : Batch) : Type 0 where
  pub low : batch.tail ≤ batch.reached
  pub small : batch.reached ≤ 2 ^ 60

-- a place lies in the group at hand, and its number in the log
pub record IsPlace (batch : Batch) (at : ℕ) : Type 0 where
  pub low : IsLow batch
  pub within : at < length batch.pages
  pub small : batch.reached + at ≤ 2 ^ 60

-- what is so by where it stands
abbrev pub FitsAt : Sizes → Batch → CleanControl → Type 0
FitsAt sizes batch (cleans.LoadEntry at) = IsLow batch × (length batch.pages ≡ at) × (at < mount_layout.group_limit)
FitsAt sizes batch (cleans.TakeCleanup at) = (at < length batch.pages) × (group_page batch at < page_total sizes)
FitsAt sizes batch cleans.TakeStore = (0 < length batch.pages) × (group_file sizes batch < sizes.files)
FitsAt sizes batch (cleans.HoldEntry at) = IsPlace batch at
FitsAt sizes batch (cleans.WriteBack at) = IsPlace batch at
FitsAt sizes batch (cleans.CleanEntry at) = IsPlace batch at
FitsAt sizes batch (cleans.SubtractDirty at) = IsPlace batch at
FitsAt sizes batch (cleans.GiveCleanup at) = IsPlace batch at
FitsAt sizes batch (cleans.ReturnEntry at end) = IsPlace batch at × (at < end) × (end ≤ length batch.pages)
FitsAt sizes batch (cleans.ReturnFailed at end) = IsPlace batch at × (at < end) × (end ≤ length batch.pages)
FitsAt sizes batch (cleans.UndoCleanup at) = at < length batch.pages
FitsAt sizes batch cleans.Retire = IsLow batch × (batch.tail < batch.reached)
FitsAt sizes batch (cleans.FreeEntry number) = IsLow batch × (number < batch.reached)
FitsAt sizes batch (cleans.GiveStore file) = file < sizes.files
FitsAt sizes batch control = Unit {0}

abbrev pub Fits : Sizes → CleanState → Type 0
Fits sizes m = FitsAt sizes m.batch m.control

-- the cell that was taken last is no entry
abbrev pub IsLockFirst : List Word → Type 0
IsLockFirst [] = ⊥
IsLockFirst (cell ∷ rest) = (slot : ℕ) → cell ≢ ENTRY slot

-- there is room for a cell that is taken, and a lock to give back
abbrev pub OwnsAt : List Word → CleanControl → Type 0
OwnsAt owned cleans.TakeHeader = length owned < most_cells
OwnsAt owned (cleans.TakeCleanup at) = length owned < most_cells
OwnsAt owned cleans.TakeStore = length owned < most_cells
OwnsAt owned (cleans.HoldEntry at) = length owned < most_cells
OwnsAt owned cleans.GiveBack = IsLockFirst owned
OwnsAt owned control = Unit {0}

-- the files whose STORE it holds, behind a step that found this
abbrev pub files_then : Sizes → Batch → CleanControl → (found : ℕ) → List ℕ
files_then sizes batch cleans.TakeStore found = if found == 0 then group_file sizes batch ∷ batch.files else batch.files
files_then sizes batch control found = batch.files

-- ---- the parts of a batch: its front, its claims of a group's locks, its entries, what it undoes, and what comes at its end

abbrev pub IsFront : CleanControl → Type 0
IsFront cleans.TakeHeader = Unit {0}
IsFront cleans.LoadStop = Unit {0}
IsFront cleans.LoadTail = Unit {0}
IsFront cleans.LoadHead = Unit {0}
IsFront control = ⊥

abbrev pub IsClaim : CleanControl → Type 0
IsClaim (cleans.TakeCleanup at) = Unit {0}
IsClaim cleans.TakeStore = Unit {0}
IsClaim control = ⊥

abbrev pub IsOnEntries : CleanControl → Type 0
IsOnEntries (cleans.LoadEntry at) = Unit {0}
IsOnEntries (cleans.HoldEntry at) = Unit {0}
IsOnEntries (cleans.CleanEntry at) = Unit {0}
IsOnEntries (cleans.SubtractDirty at) = Unit {0}
IsOnEntries (cleans.GiveCleanup at) = Unit {0}
IsOnEntries control = ⊥

-- what is undone of a group that can't be cleaned
abbrev pub IsUndoing : CleanControl → Type 0
IsUndoing (cleans.ReturnEntry at end) = Unit {0}
IsUndoing (cleans.ReturnFailed at end) = Unit {0}
IsUndoing (cleans.UndoCleanup at) = Unit {0}
IsUndoing control = ⊥

abbrev pub IsEnd : CleanControl → Type 0
IsEnd (cleans.FreeEntry number) = Unit {0}
IsEnd cleans.AdvanceTail = Unit {0}
IsEnd (cleans.GiveStore file) = Unit {0}
IsEnd cleans.GiveHeader = Unit {0}
IsEnd cleans.GiveCleaner = Unit {0}
IsEnd cleans.GiveBack = Unit {0}
IsEnd control = ⊥

-- a step that comes with no device call before it
abbrev pub IsPlain : CleanControl → Type 0
IsPlain cleans.Begin = ⊥
IsPlain (cleans.WriteBack at) = ⊥
IsPlain cleans.Retire = ⊥
IsPlain cleans.Over = ⊥
IsPlain control = Unit {0}

-- device calls come before the next step
abbrev pub CallsDevices : CleanControl → Type 0
CallsDevices (cleans.WriteBack at) = Unit {0}
CallsDevices cleans.Retire = Unit {0}
CallsDevices control = ⊥

-- a step that may come behind them
abbrev pub ComesBehind : CleanControl → Type 0
ComesBehind (cleans.HoldEntry at) = Unit {0}
ComesBehind (cleans.CleanEntry at) = Unit {0}
ComesBehind (cleans.ReturnEntry at end) = Unit {0}
ComesBehind (cleans.FreeEntry number) = Unit {0}
ComesBehind control = ⊥

-- it has made its first step
abbrev pub IsBegun : CleanControl → Type 0
IsBegun cleans.Begin = ⊥
IsBegun control = Unit {0}

-- and its last one
abbrev pub is_over : CleanControl → Bool
is_over cleans.Over = true
is_over control = false

abbrev pub IsOpen : CleanControl → Type 0
IsOpen cleans.Over = ⊥
IsOpen control = Unit {0}

-- the core's control state there, of one that is plain
abbrev pub inner_at : Sizes → Batch → CleanControl → CleanerControl
inner_at sizes batch cleans.TakeHeader = cleaner.TakeHeader
inner_at sizes batch cleans.LoadStop = cleaner.LoadStop
inner_at sizes batch cleans.LoadTail = cleaner.LoadTail
inner_at sizes batch cleans.LoadHead = cleaner.LoadHead
inner_at sizes batch (cleans.LoadEntry at) = cleaner.LoadEntry at
inner_at sizes batch (cleans.TakeCleanup at) = cleaner.TakeCleanup at
inner_at sizes batch cleans.TakeStore = cleaner.TakeStore
inner_at sizes batch (cleans.HoldEntry at) = cleaner.HoldEntry at
inner_at sizes batch (cleans.CleanEntry at) = cleaner.CleanEntry at
inner_at sizes batch (cleans.SubtractDirty at) = cleaner.SubtractDirty at
inner_at sizes batch (cleans.GiveCleanup at) = cleaner.GiveCleanup at
inner_at sizes batch (cleans.ReturnEntry at end) = cleaner.RefusedReturnEntry at end
inner_at sizes batch (cleans.ReturnFailed at end) = cleaner.FailedReturnEntry at end
inner_at sizes batch (cleans.UndoCleanup at) = cleaner.RefusedGiveCleanup at
inner_at sizes batch (cleans.FreeEntry number) = cleaner.FreeEntry number
inner_at sizes batch cleans.AdvanceTail = cleaner.AdvanceTail
inner_at sizes batch (cleans.GiveStore file) = cleaner.GiveStores (file ∷ files_from sizes batch (file + 1))
inner_at sizes batch cleans.GiveHeader = cleaner.GiveHeader
inner_at sizes batch cleans.GiveCleaner = cleaner.GiveCleaner
inner_at sizes batch control = cleaner.GiveBack

-- ---- a batch under way

-- A batch that has made some steps since a start, all its own: its pass stands so and owns these cells. It has no place, and the history is as the pass saw it.
pub record InBatch (control : Control) (owned : List Word) (start now : PassState) : Type 0 where
  pub idle : IsIdle start
  pub steps : List PassStep
  pub made : HasMade steps start now
  pub own : AreOwn steps
  pub later : IsLater start now
  pub spare : now.spare ≡ start.spare
  pub mount : now.view.opened ≡ start.view.opened
  pub still : IsShownStill now
  pub left : (pass_of now.view).left ≡ []
  pub unplaced : IsUnplaced start.view now.view
  pub control_is : (pass_of now.view).control ≡ control
  pub owned_is : (pass_of now.view).owned ≡ owned

-- no number stands twice in a list
abbrev pub AreApart : List ℕ → Type 0
AreApart [] = Unit {0}
AreApart (first ∷ rest) = (list_any (λ other. other == first) rest ≡ false) × AreApart rest

pub record IsUnderWay (m : CleanState) (start now : PassState) : Type 0 where
  pub called : InBatch (control_of now.view.opened.sizes m) m.owned start now
  pub apart : AreApart m.batch.files
  pub fresh : m.control ≡ cleans.Begin → (m.owned ≡ []) × (m.batch ≡ new_batch m.batch.most) × (now ≡ start) × (m.refusal ≡ None)

-- ---- device calls

-- why a device call did not end well, if it did not: a fault of a store, or of a part of the region, or want of memory
abbrev pub call_refusal : Word → CallEnding → Option CleanRefusal
call_refusal cell Made = None
call_refusal cell Refused = Some refusals.NoMemory
call_refusal (STORE file) (Failed came faults) = Some refusals.StoreFault
call_refusal cell (Failed came faults) = Some refusals.RegionFault

-- the first of some that did not
abbrev pub calls_refusal : List Work → Option CleanRefusal
calls_refusal [] = None
calls_refusal (work ∷ later) = either_of (call_refusal work.cell work.ending) (calls_refusal later)

-- It has made some device calls since its last step, which are due one after another and ended so, and behind them stands so; what it owns shows what they leave.
pub record IsBehind (stands : Control) (refusal : Option CleanRefusal) (m : CleanState) (start was now : PassState) : Type 0 where
  pub control : Control
  pub called : InBatch control m.owned start was
  pub apart : AreApart m.batch.files
  pub between : IsBetweenSteps was now
  pub works : List Work
  pub due : AreDue was.view.opened.sizes (values_of was.view) (pass_of was.view) works
  pub stands_so : (pass_worked was.view.opened.sizes works (pass_of was.view)).control ≡ stands
  pub refused : calls_refusal works ≡ refusal
  pub shows : OwnsSlots was.view.opened.sizes (λ value. value) (values_before was.view works) (still_owned (pass_of was.view)) now.now

-- why it returns an entry that it was to write back
abbrev pub refusal_behind : CleanControl → Option CleanRefusal
refusal_behind (cleans.ReturnEntry at end) = Some refusals.NoMemory
refusal_behind control = None

-- and so it has, where it goes on there
abbrev pub IsAfterCalls : CleanState → (start was now : PassState) → Type 0
IsAfterCalls m start was now = IsBehind (control_of now.view.opened.sizes m) (refusal_behind m.control) m start was now

-- What is said of some device calls is that they ended so, and that the pass stands so behind them.
abbrev pub SaysStands : (List Work → Type 0) → Control → Option CleanRefusal → (now : PassState) → Type 0
SaysStands said stands refusal now = (works : List Work)
    → (said works → ((pass_worked now.view.opened.sizes works (pass_of now.view)).control ≡ stands) × (calls_refusal works ≡ refusal))
    × ((pass_worked now.view.opened.sizes works (pass_of now.view)).control ≡ stands → calls_refusal works ≡ refusal → said works)

-- ---- an entry's piece, which is written back

-- It has read the piece of an entry of its group, and writes it to the store of the group's file next, which it holds.
pub record HasReadPiece (m : CleanState) (at offset : ℕ) (bytes : List ℕ) (start was now : PassState) : Type 0 where
  pub behind : IsBehind (Cleaning m.batch (cleaner.WriteBack at)) None m start was now
  pub says : SaysPieceOf was.view.opened.sizes offset bytes (values_before was.view behind.works (ENTRY (slot_of_entry was.view.opened.sizes (m.batch.reached + at))))
  pub there : group_file was.view.opened.sizes m.batch < was.view.opened.sizes.files
  pub once : times (STORE (group_file was.view.opened.sizes m.batch)) m.owned ≡ 1
  pub store : IsStore (values_before was.view behind.works (STORE (group_file was.view.opened.sizes m.batch)))

-- So many entries of its group are held: the numbers of the group, and room for the next one.
pub record IsGroupHeld (m : CleanState) (held : ℕ) : Type 0 where
  pub within : held ≤ length m.batch.pages
  pub places : (i : ℕ) → i < length m.batch.pages → IsPlace m.batch i
  pub room : held < length m.batch.pages → length m.owned < most_cells

-- where it stands behind the write, by its answer, and why that was not well, if it wasn't
abbrev pub written_at : Batch → (at : ℕ) → Result (Unit {0}) StoreError → Control
written_at batch at (Ok done) = each_next batch at (cleaner.HoldEntry (at + 1)) (Cleaning batch (cleaner.CleanEntry 0))
written_at batch at (Err Fault) = Cleaning batch (cleaner.SetStop (at + 1))
written_at batch at (Err NoMemory) = Cleaning batch (cleaner.RefusedReturnEntry 0 (at + 1))

abbrev pub write_refusal : Result (Unit {0}) StoreError → Option CleanRefusal
write_refusal (Ok done) = None
write_refusal (Err Fault) = Some refusals.StoreFault
write_refusal (Err NoMemory) = Some refusals.NoMemory
