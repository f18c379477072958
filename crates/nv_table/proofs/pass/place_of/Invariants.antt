use Rattle.std.proofs.Common.{length, ◌-◌, ◌≢◌, ◌<◌, ◌≤◌, slice_index, ℕ}
use Rattle.nv_table.proofs.pass.place_of.Given as goal

abbrev pub invariant-loop-i : goal.invariant-loop-i
invariant-loop-i l = (l.i ≤ length l.held) × ((j : ℕ) → j < l.i → slice_index l.held j ≢ l.slot)

abbrev pub decreases-loop-i : goal.decreases-loop-i
decreases-loop-i l = length l.held - l.i
