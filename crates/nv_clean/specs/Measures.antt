-- Measures: how many steps of a batch may still come, by how many entries it may still pass. What it owns counts too, since each cell may be given back by itself; so a step
-- that may take one counts twice.
use Rattle.std.specs.Prelude.{ℕ, ◌+◌, ◌-◌, ◌*◌, ◌==◌, if◌then◌else◌, length}
use Rattle.nv_plain.specs.Layouts.{mount_layout}
use Rattle.nv_core.specs.state.Words.{Sizes}
use Rattle.nv_core.specs.state.Cleaner.{Batch, CleanerControl}
use Rattle.nv_core.specs.state.Cleaner as cleaner
use Rattle.nv_core.specs.state.Passes.{Control, Cleaning}
use Rattle.nv_clean.specs.declared.batch.CleanControl.{CleanControl}
use Rattle.nv_clean.specs.declared.batch.CleanControl.TheVariants as cleans
use Rattle.nv_clean.specs.Cleaning.{CleanState, control_at}

-- an entry counts so much at most
abbrev pub entry_steps : ℕ
entry_steps = 16

-- what is given back in the end, of a mount with so many files
abbrev pub ending_measure : Sizes → ℕ
ending_measure sizes = 3 + sizes.files

-- what is cleaned is freed, and all is given back
abbrev pub retiring_measure : Sizes → Batch → ℕ
retiring_measure sizes batch = (batch.reached - batch.tail) + ending_measure sizes

-- and the entries that it may pass behind so many more
abbrev pub later_measure : Sizes → Batch → (passed : ℕ) → ℕ
later_measure sizes batch passed = entry_steps * ((batch.tail + batch.most) - (batch.reached + passed)) + retiring_measure sizes batch

-- the first group may be larger than the batch
abbrev pub first_measure : Batch → ℕ
first_measure batch = if batch.reached == batch.tail then entry_steps * mount_layout.group_limit else 0

-- before ENTRY of the leader of the next group, or of a follower, whose leader says how many there are
abbrev pub load_measure : Sizes → Batch → (i : ℕ) → ℕ
load_measure sizes batch i =
    if i == 0 then 1 + first_measure batch + later_measure sizes batch 0 else (batch.count - i) + 8 * batch.count + 6 + later_measure sizes batch batch.count

-- behind the loads of a group's ENTRY words, of which so much is still to be done
abbrev pub group_measure : Sizes → Batch → (steps : ℕ) → ℕ
group_measure sizes batch steps = 1 + steps + later_measure sizes batch (length batch.pages)

-- before the first group
abbrev pub most_measure : Sizes → (most : ℕ) → ℕ
most_measure sizes most = entry_steps * (most + mount_layout.group_limit) + ending_measure sizes

-- by where it stands
abbrev pub inner_measure : Sizes → Batch → CleanerControl → ℕ
inner_measure sizes batch cleaner.TakeHeader = 6 + most_measure sizes batch.most
inner_measure sizes batch cleaner.LoadStop = 4 + most_measure sizes batch.most
inner_measure sizes batch cleaner.LoadTail = 3 + most_measure sizes batch.most
inner_measure sizes batch cleaner.LoadHead = 2 + first_measure batch + later_measure sizes batch 0
inner_measure sizes batch (cleaner.LoadEntry i) = load_measure sizes batch i
inner_measure sizes batch (cleaner.TakeCleanup i) = group_measure sizes batch (6 * length batch.pages + 4 + 2 * (length batch.pages - i))
inner_measure sizes batch cleaner.TakeStore = group_measure sizes batch (6 * length batch.pages + 4)
inner_measure sizes batch (cleaner.HoldEntry i) = group_measure sizes batch (4 * length batch.pages + 2 + 2 * (length batch.pages - i))
inner_measure sizes batch (cleaner.ReadPiece i) = group_measure sizes batch (4 * length batch.pages + 2 * (length batch.pages - i))
inner_measure sizes batch (cleaner.WriteBack i) = group_measure sizes batch (4 * length batch.pages + 2 * (length batch.pages - i))
inner_measure sizes batch (cleaner.CleanEntry i) = group_measure sizes batch (3 * length batch.pages + (length batch.pages - i))
inner_measure sizes batch (cleaner.SubtractDirty i) = group_measure sizes batch (2 * length batch.pages + (length batch.pages - i))
inner_measure sizes batch (cleaner.GiveCleanup i) = group_measure sizes batch (length batch.pages + (length batch.pages - i))
inner_measure sizes batch (cleaner.RefusedReturnEntry i end) = length batch.pages + (end - i) + retiring_measure sizes batch
inner_measure sizes batch (cleaner.RefusedGiveCleanup i) = i + 1 + retiring_measure sizes batch
inner_measure sizes batch (cleaner.FailedReturnEntry i end) = 1 + (end - i)
inner_measure sizes batch (cleaner.SyncStores files) = retiring_measure sizes batch
inner_measure sizes batch (cleaner.MoveHeaderTail calls) = retiring_measure sizes batch
inner_measure sizes batch (cleaner.FreeEntry number) = (batch.reached - number) + ending_measure sizes
inner_measure sizes batch cleaner.AdvanceTail = ending_measure sizes
inner_measure sizes batch (cleaner.GiveStores files) = 2 + length files
inner_measure sizes batch cleaner.GiveHeader = 2
inner_measure sizes batch cleaner.GiveCleaner = 1
inner_measure sizes batch (cleaner.SetStop held) = 2 + held
inner_measure sizes batch cleaner.GiveBack = 1

abbrev pub control_measure : Sizes → Control → ℕ
control_measure sizes (Cleaning batch inner) = inner_measure sizes batch inner
control_measure sizes control = 0

abbrev pub measure_at : Sizes → Batch → CleanControl → ℕ
measure_at sizes batch cleans.Begin = 8 + most_measure sizes batch.most
measure_at sizes batch control = control_measure sizes (control_at sizes batch control)

abbrev pub clean_measure : Sizes → CleanState → ℕ
clean_measure sizes m = length m.owned + measure_at sizes m.batch m.control
