use Rattle.std.proofs.Common.{◌≡◌, map, sum_by}
use Rattle.nv_pmem.specs.Rows.{RowTells, AreOnlyRead, row_words}
use Rattle.nv_look.specs.Rows.{AreInRange}
use Rattle.nv_look.specs.Walks.{HasListed}
use Rattle.nv_look.proofs.listing.list_log.Given as goal

-- the numbers below this one are listed
abbrev pub invariant-loop-number : goal.invariant-loop-number
invariant-loop-number g l = record {
  listed : RowTells (map g.L.Lines.history l.fn.parts) (λ parts. HasListed (row_words parts) l.bounds.tail l.number l.rows.items);
  range : AreInRange l.rows.items;
  read : AreOnlyRead g.L.Lines.history g.L.Lines.room g.L.Lines.device l.fn.parts l.parts;
  faults : sum_by g.L.Lines.fault_count l.parts ≡ sum_by g.L.Lines.fault_count l.fn.parts;
}
