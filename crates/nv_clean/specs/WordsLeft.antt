-- Words left: what a batch leaves of the locks, of ENTRY and of DIRTY.
use Rattle.std.specs.Prelude.{◌≡◌, ℕ, ◌+◌, ◌==◌, Bool, true, false, List, [], ◌∷◌}
use Rattle.nv_core.specs.state.Words.{Sizes, Word, page_of}
use Rattle.nv_core.specs.state.Cleaner.{TakeCleaner, Clean, Subtract}
use Rattle.nv_core.specs.state.Cleaner as cleaner
use Rattle.nv_core.specs.invariant.Ownership.{one_if}
use Rattle.nv_core.specs.steps.Ops.{Op, ByCleaner, move_of, moved}
use Rattle.nv_mirror.specs.PassSteps.{PassStep}

-- the cells that some steps took, the entries that they held among them, and have not given back
abbrev pub held_by : Sizes → List PassStep → List Word
held_by sizes [] = []
held_by sizes (step ∷ earlier) = moved (move_of sizes step.op step.found) (held_by sizes earlier)

-- A step leaves no word changed once all is given back: it loads a word, takes a lock or gives one back, holds an entry or returns it as ready.
abbrev pub is_passing : Op → Bool
is_passing (ByCleaner (TakeCleaner most)) = true
is_passing (ByCleaner (cleaner.Load word)) = true
is_passing (ByCleaner (cleaner.Take cell)) = true
is_passing (ByCleaner (cleaner.Give cell)) = true
is_passing (ByCleaner (cleaner.Hold number)) = true
is_passing (ByCleaner (cleaner.Return number)) = true
is_passing op = false

abbrev pub ArePassing : List PassStep → Type 0
ArePassing [] = Unit {0}
ArePassing (step ∷ earlier) = (is_passing step.op ≡ true) × ArePassing earlier

-- how many entries of a page some steps cleaned, by the page that ENTRY said
abbrev pub cleans : (page : ℕ) → Op → (found : ℕ) → ℕ
cleans page (ByCleaner (Clean number)) found = one_if (page_of found == page)
cleans page op found = 0

abbrev pub cleaned_of : (page : ℕ) → List PassStep → ℕ
cleaned_of page [] = 0
cleaned_of page (step ∷ earlier) = cleans page step.op step.found + cleaned_of page earlier

-- and how often they lowered its DIRTY
abbrev pub lowers : (page : ℕ) → Op → ℕ
lowers page (ByCleaner (Subtract one)) = one_if (one == page)
lowers page op = 0

abbrev pub lowered_of : (page : ℕ) → List PassStep → ℕ
lowered_of page [] = 0
lowered_of page (step ∷ earlier) = lowers page step.op + lowered_of page earlier
