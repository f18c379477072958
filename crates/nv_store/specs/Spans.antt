-- Spans: where those bytes of a store lie that were written since the last sync.
use Rattle.std.specs.Prelude.{◌≡◌, ◌⊎◌, ℕ, ◌<◌, ◌≤◌, Bool, false, List, length, slice_index, slice_index_or}

-- all marks lie from one offset on, and below another
pub record LieWithin (from to : ℕ) (flags : List Bool) : Type 0 where
  pub others : (i : ℕ) → (i < from) ⊎ (to ≤ i) → slice_index_or flags i false ≡ false

-- some bytes are those that stand in their places in others, but from one offset on and below another
pub record DifferWithin (from to : ℕ) (bytes others : List ℕ) : Type 0 where
  pub same : (i : ℕ) → (i < from) ⊎ (to ≤ i) → i < length bytes → slice_index bytes i ≡ slice_index others i
