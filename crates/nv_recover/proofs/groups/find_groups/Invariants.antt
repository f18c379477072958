use Rattle.std.proofs.Common.{◌≡◌, map, sum_by}
use Rattle.nv_pmem.specs.Rows.{RowTells, AreOnlyRead, row_words}
use Rattle.nv_recover.specs.Finding.{HasFound}
use Rattle.nv_recover.proofs.groups.find_groups.Given as goal

-- the groups below this number are found
abbrev pub invariant-loop-number : goal.invariant-loop-number
invariant-loop-number g l = record {
  found : RowTells (map g.L.Lines.history l.fn.parts) (λ parts. HasFound (row_words parts) l.bounds.tail l.number l.groups.items);
  read : AreOnlyRead g.L.Lines.history g.L.Lines.room g.L.Lines.device l.fn.parts l.parts;
  faults : sum_by g.L.Lines.fault_count l.parts ≡ sum_by g.L.Lines.fault_count l.fn.parts;
}
