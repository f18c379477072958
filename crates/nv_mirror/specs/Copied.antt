-- Copied: what a read copies of a page into its list.
use Rattle.std.specs.Prelude.{◌≡◌, ℕ, ◌++◌, true, false, List, length, take, Option, Some, None}
use Rattle.nv_plain.specs.Files.{bytes_at}
use Rattle.nv_core.specs.state.Values.{Value, is_valid, bytes_in}

-- Where the buffer of a cell is valid, its bytes from an offset on are in a list from a place on, as many as there are, and no more than a size; else
-- nothing has changed.
abbrev pub IsPut : Value → (at from size : ℕ) → (old new : List ℕ) → Option ℕ → Type 0
IsPut value at from size old new (Some count) =
    (is_valid value ≡ true) × (count ≡ length (bytes_at (bytes_in value) at size))
    × (rest : List ℕ) × (new ≡ take from old ++ (bytes_at (bytes_in value) at size ++ rest))
IsPut value at from size old new None = (is_valid value ≡ false) × (new ≡ old)
