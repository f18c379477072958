-- Totals: sums over the numbers below one.
use Rattle.std.specs.Prelude.{ℕ, zero, suc, ◌+◌}

-- the sum of a function's values at the first so many numbers
unfoldable pub total : (count : ℕ) → (ℕ → ℕ) → ℕ
total zero value = 0
total (suc count) value = total count value + value count
