-- Bytes of which some are replaced, each in its place.
use Rattle.std.specs.Prelude.{ℕ, Bool, false, if◌then◌else◌, List, length, map, slice_index, slice_index_or}
use Rattle.std.specs.List.{range_with_len}

-- the bytes, others in place of those that are marked
unfoldable pub replaced : List Bool → (ℕ → ℕ) → List ℕ → List ℕ
replaced flags other bytes =
    map (λ i. if slice_index_or flags i false then other i else slice_index bytes i) (range_with_len 0 (length bytes))
