use Rattle.std.proofs.Common.{length, ◌-◌, ◌≢◌, ◌<◌, ◌≤◌, slice_index_or, reverse, ℕ}
use Rattle.nv_clean.proofs.owned.place_of.Given as goal

abbrev pub invariant-loop-i : goal.invariant-loop-i
invariant-loop-i l = (l.i ≤ length l.cells) × ((j : ℕ) → j < l.i → slice_index_or (reverse l.cells) j l.cell ≢ l.cell)

abbrev pub decreases-loop-i : goal.decreases-loop-i
decreases-loop-i l = length l.cells - l.i
