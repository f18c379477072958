-- A cleaner's numbers: which entries a cleaner has cleaned, and which of them it has freed.
use Rattle.std.specs.Prelude.{ℕ, ◌+◌, ◌<◌, ◌≤◌, length}
use Rattle.nv_core.specs.state.Cleaner.{Batch, CleanerControl, CleanEntry, SubtractDirty, FreeEntry, AdvanceTail, GiveStores, GiveHeader, GiveCleaner}
use Rattle.nv_core.specs.state.Cleaner as cleaner
use Rattle.nv_core.specs.state.Passes.{Control, Cleaning}

-- how many entries of the group at hand it has cleaned
abbrev pub cleaned_count : Batch → CleanerControl → ℕ
cleaned_count batch (CleanEntry i) = i
cleaned_count batch (SubtractDirty i) = length batch.pages
cleaned_count batch (cleaner.GiveCleanup i) = length batch.pages
cleaned_count batch inner = 0

-- the number from which on its cleaned entries are there still; one that gives all back has none of its own
abbrev pub cleaned_from : Batch → CleanerControl → ℕ
cleaned_from batch (FreeEntry number) = number
cleaned_from batch AdvanceTail = batch.reached
cleaned_from batch (GiveStores files) = batch.reached
cleaned_from batch GiveHeader = batch.reached
cleaned_from batch GiveCleaner = batch.reached
cleaned_from batch cleaner.GiveBack = batch.reached
cleaned_from batch inner = batch.tail

-- a number that a pass has cleaned, and not freed
abbrev pub IsCleaned : Control → (number : ℕ) → Type 0
IsCleaned (Cleaning batch inner) number = (cleaned_from batch inner ≤ number) × (number < batch.reached + cleaned_count batch inner)
IsCleaned control number = ⊥

-- a number that it has freed, of which TAIL is still to be moved
abbrev pub IsFreed : Control → (number : ℕ) → Type 0
IsFreed (Cleaning batch (FreeEntry next)) number = (batch.tail ≤ number) × (number < next)
IsFreed (Cleaning batch AdvanceTail) number = (batch.tail ≤ number) × (number < batch.reached)
IsFreed control number = ⊥
