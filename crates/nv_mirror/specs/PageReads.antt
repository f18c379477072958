-- Page reads: the device call that lies before a store is given back, and before STOP is set where it has failed.
use Rattle.std.specs.Prelude.{◌≡◌, ℕ, false, List, [], ◌∷◌}
use Rattle.nv_core.specs.state.Words.{STORE}
use Rattle.nv_core.specs.state.Values.{PageRead, Made, Failed}
use Rattle.nv_core.specs.steps.Order.{Work}

-- the read of a page from a file's store, which went well
abbrev pub page_read : (file at : ℕ) → List ℕ → List Work
page_read file at bytes = record { cell = STORE file; job = PageRead at bytes; ending = Made } ∷ []

-- one that has failed, and no other call
pub record HasFailedPageRead (works : List Work) : Type 0 where
  pub file : ℕ
  pub at : ℕ
  pub bytes : List ℕ
  pub faults : ℕ
  pub is : works ≡ record { cell = STORE file; job = PageRead at bytes; ending = Failed false faults } ∷ []
