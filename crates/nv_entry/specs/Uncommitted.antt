-- Uncommitted: parts in which a group is still to be committed.
use Rattle.std.specs.Prelude.{ℕ, List}
use Rattle.nv_pmem.specs.Rows.{InEachRowImage, RowTells}
use Rattle.nv_pmem.specs.Steps.{PartHistory}
use Rattle.nv_entry.specs.Group.{IsUncommitted}

-- None of so many entries is committed: where their parts tell, in no image of them.
abbrev pub AreUncommitted : (first count : ℕ) → List PartHistory → Type 0
AreUncommitted first count row = RowTells row (InEachRowImage (IsUncommitted first count))
