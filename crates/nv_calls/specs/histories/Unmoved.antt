-- Unmoved: a refused write changes no word but locks, and gives these back.
use Rattle.std.specs.Prelude.{◌≡◌, ℕ, ◌==◌, Bool, true, false, not, if◌then◌else◌, List, [], ◌∷◌, None, Result}
use Rattle.nv_core.specs.state.Words.{Word}
use Rattle.nv_core.specs.state.Passes.{without}
use Rattle.nv_core.specs.steps.Ops.{Op, Load, Take, Give, Draw}
use Rattle.nv_table.specs.state.States.{PassState}
use Rattle.nv_mirror.specs.declared.answers.Done.{Done}
use Rattle.nv_mirror.specs.declared.answers.Refusal.{Refusal}
use Rattle.nv_mirror.specs.Answers.{place_in_answer, refusal_in_answer}
use Rattle.nv_mirror.specs.PassSteps.{PassStep, HasMade, head_in, is_fault}

-- A step changes no word but a lock, where its call loaded HEAD as it was: it loads a word, takes a lock or gives one back, or is a draw that found
-- HEAD moved.
abbrev pub is_locking : (head : ℕ) → Op → (found : ℕ) → Bool
is_locking head (Load word) found = true
is_locking head (Take cell) found = true
is_locking head (Give cell) found = true
is_locking head Draw found = not (found == head)
is_locking head op found = false

-- so each of some steps, the last of them first
abbrev pub AreLocking : List PassStep → Type 0
AreLocking [] = Unit {0}
AreLocking (step ∷ earlier) = (is_locking (head_in earlier) step.op step.found ≡ true) × AreLocking earlier

-- the locks that some steps took and have not given back
abbrev pub held_after : Op → (found : ℕ) → List Word → List Word
held_after (Take cell) found held = if found == 0 then cell ∷ held else held
held_after (Give cell) found held = without cell held
held_after op found held = held

abbrev pub held_by : List PassStep → List Word
held_by [] = []
held_by (step ∷ earlier) = held_after step.op step.found (held_by earlier)

-- Where a call has no place, and no device has failed, its steps have changed no word but locks, and gave back each lock that they took.
pub record LeavesWords (start now : PassState) (result : Result Done Refusal) : Type 0 where
  pub steps : List PassStep
  pub made : HasMade steps start now
  pub left : place_in_answer result ≡ None → is_fault (refusal_in_answer result) ≡ false → AreLocking steps × (held_by steps ≡ [])
