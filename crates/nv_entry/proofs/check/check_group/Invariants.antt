use Rattle.std.proofs.Common.{◌≡◌, ◌^◌, ◌≤◌, map, sum_by}
use Rattle.nv_plain.specs.Layouts.{layout_of}
use Rattle.nv_pmem.specs.Rows.{RowTells, AreOnlyRead, row_words}
use Rattle.nv_entry.proofs.Checking.{HasChecked}
use Rattle.nv_entry.proofs.check.check_group.Given as goal

-- the entries below this number are good
abbrev pub invariant-loop-number : goal.invariant-loop-number
invariant-loop-number g l = record {
  checked : RowTells (map g.L.Lines.history l.fn.parts) (λ parts. HasChecked (layout_of l.bounds.version) (row_words parts) l.leader l.number l.count l.file l.end);
  end : l.end ≤ 2 ^ 60;
  read : AreOnlyRead g.L.Lines.history g.L.Lines.room g.L.Lines.device l.fn.parts l.parts;
  faults : sum_by g.L.Lines.fault_count l.parts ≡ sum_by g.L.Lines.fault_count l.fn.parts;
}
