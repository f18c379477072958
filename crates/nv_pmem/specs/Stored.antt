-- Stored words: which words some steps store, and what may have come of an image by them.
use Rattle.std.specs.Prelude.{◌≡◌, ◌⊎◌, ℕ, List, [], ◌∷◌}
use Rattle.nv_plain.specs.Images.{PartImage}
use Rattle.nv_pmem.specs.Images.{IsPartImage}
use Rattle.nv_pmem.specs.Part.{Part}
use Rattle.nv_pmem.specs.Steps.{LineStep, StoreWord, Flush, Fence}

-- a step stores this value in this word
abbrev pub IsStored : LineStep → ℕ → ℕ → ℕ → Type 0
IsStored (StoreWord line word value) i j found = (i ≡ line) × (j ≡ word) × (found ≡ value)
IsStored (Flush line) i j found = ⊥
IsStored Fence i j found = ⊥

-- one of some steps does
abbrev pub IsStoredBy : List LineStep → ℕ → ℕ → ℕ → Type 0
IsStoredBy [] i j found = ⊥
IsStoredBy (step ∷ steps) i j found = IsStored step i j found ⊎ IsStoredBy steps i j found

-- none of some steps stores anything in a word
abbrev pub LeaveWord : List LineStep → ℕ → ℕ → Type 0
LeaveWord steps line word = (value : ℕ) → ¬ (IsStoredBy steps line word value)

-- nor in any word of a line
abbrev pub LeaveLine : List LineStep → ℕ → Type 0
LeaveLine steps line = (word : ℕ) → LeaveWord steps line word

-- Each word of an image is as in an image of another state, or was stored since by one of some steps.
pub record ComesFrom (part : Part) (steps : List LineStep) (image : PartImage) : Type 0 where
  pub before : PartImage
  pub is : IsPartImage part before
  pub words : (i j : ℕ) → (image i j ≡ before i j) ⊎ IsStoredBy steps i j (image i j)
