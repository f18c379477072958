use Rattle.std.proofs.Common.{◌≡◌, ◌≢◌, ℕ, ◌<◌, List, take, length, get_or}
use Rattle.nv_pmem.specs.MemLine.{column}
use Rattle.nv_pmem.proofs.mem_line.put_into.Given as goal

-- the rows before this one have their values, and nothing else changed
abbrev pub invariant-loop-row : goal.invariant-loop-row
invariant-loop-row l = record {
  long : length l.rows ≡ 15;
  wide : (row : ℕ) (none : List ℕ) → row < 15 → length (get_or l.rows row none) ≡ 8;
  put : take l.row (column l.rows l.at) ≡ take l.row l.values;
  others : (other : ℕ) → other ≢ l.at → column l.rows other ≡ column l.initial.rows other;
}
