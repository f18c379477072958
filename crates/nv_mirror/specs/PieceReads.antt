-- Piece reads: the device call that lies before an entry is returned, and before STOP is set where it has failed.
use Rattle.std.specs.Prelude.{◌≡◌, ℕ, false, List, [], ◌∷◌}
use Rattle.nv_core.specs.state.Words.{Sizes, ENTRY, slot_of_entry}
use Rattle.nv_core.specs.state.Values.{PieceRead, CallEnding, Failed}
use Rattle.nv_core.specs.steps.Order.{Work}

-- the read of the piece of a number's entry
abbrev pub piece_read : Sizes → (number at : ℕ) → List ℕ → CallEnding → List Work
piece_read sizes number at bytes ending = record { cell = ENTRY (slot_of_entry sizes number); job = PieceRead at bytes; ending = ending } ∷ []

-- one that has failed, and no other call
pub record HasFailedPieceRead (works : List Work) : Type 0 where
  pub slot : ℕ
  pub at : ℕ
  pub bytes : List ℕ
  pub faults : ℕ
  pub is : works ≡ record { cell = ENTRY slot; job = PieceRead at bytes; ending = Failed false faults } ∷ []
