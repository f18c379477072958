use Rattle.std.proofs.Common.{◌≡◌, map, sum_by}
use Rattle.nv_pmem.specs.Rows.{RowTells, AreOnlyRead, row_words}
use Rattle.nv_look.proofs.WalkLaws.{HasSummed}
use Rattle.nv_look.proofs.listing.group_len.Given as goal

-- the entries below this number are summed
abbrev pub invariant-loop-number : goal.invariant-loop-number
invariant-loop-number g l = record {
  summed : RowTells (map g.L.Lines.history l.fn.parts) (λ parts. HasSummed (row_words parts) l.leader l.number l.len);
  read : AreOnlyRead g.L.Lines.history g.L.Lines.room g.L.Lines.device l.fn.parts l.parts;
  faults : sum_by g.L.Lines.fault_count l.parts ≡ sum_by g.L.Lines.fault_count l.fn.parts;
}
