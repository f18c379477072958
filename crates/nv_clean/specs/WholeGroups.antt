-- Whole groups: what a batch retires, by the words of the leaders as it loaded them.
use Rattle.std.specs.Prelude.{◌≡◌, ℕ, ◌+◌, ◌==◌, Bool, true, false, ◌&&◌, ◌||◌, List, [], ◌∷◌}
use Rattle.nv_core.specs.state.Words.{Sizes, ENTRY, kind_of, ready, slot_of_entry}
use Rattle.nv_core.specs.state.Cleaner as cleaner
use Rattle.nv_core.specs.steps.CleanerSteps.{count_of}
use Rattle.nv_core.specs.steps.Ops.{Op, ByCleaner}
use Rattle.nv_mirror.specs.PassSteps.{PassStep}

-- whether a step loaded ENTRY of this number, and found it ready and the leader of a group of so many
abbrev pub finds_leader : Sizes → (number count : ℕ) → Op → (found : ℕ) → Bool
finds_leader sizes number count (ByCleaner (cleaner.Load (ENTRY slot))) found = slot == slot_of_entry sizes number && kind_of found == ready && count_of found == count
finds_leader sizes number count op found = false

abbrev pub leads_in : Sizes → (number count : ℕ) → List PassStep → Bool
leads_in sizes number count [] = false
leads_in sizes number count (step ∷ earlier) = finds_leader sizes number count step.op step.found || leads_in sizes number count earlier

-- Groups of so many entries each, from one number on to another, the last of them first: the leader of each was found where the one before it ends.
abbrev pub AreGroups : Sizes → List PassStep → (from : ℕ) → (counts : List ℕ) → (end : ℕ) → Type 0
AreGroups sizes steps from [] end = end ≡ from
AreGroups sizes steps from (count ∷ before) end = (leader : ℕ) × (leads_in sizes leader count steps ≡ true) × (end ≡ leader + count) × AreGroups sizes steps from before leader

-- So many entries from a number on are whole groups.
pub record AreWholeGroups (sizes : Sizes) (steps : List PassStep) (from entries : ℕ) : Type 0 where
  pub counts : List ℕ
  pub groups : AreGroups sizes steps from counts (from + entries)
