use Rattle.std.proofs.Common.{◌≡◌, ◌+◌, map, drop, sum_by}
use Rattle.nv_plain.specs.Layouts.{layout_of}
use Rattle.nv_pmem.specs.Rows.{RowTells, InEachRowImage, row_words}
use Rattle.nv_header.specs.Regions.{HasParts}
use Rattle.nv_recover.specs.Alike.{SayTheSame}
use Rattle.nv_recover.specs.Changes.{ThroughoutRow, StayParts}
use Rattle.nv_recover.proofs.EmptyRows.{AreClearedTo}
use Rattle.nv_recover.proofs.empty.clear_words.Given as goal

-- the entries before this one are cleared
abbrev pub invariant-loop-entry : goal.invariant-loop-entry
invariant-loop-entry g l = record {
  done : AreClearedTo (l.bounds.tail + l.bounds.entries) l.entry (map g.L.Lines.history l.fn.parts) (map g.L.Lines.history l.parts);
  moments : RowTells (map g.L.Lines.history l.fn.parts) (λ was.
      ThroughoutRow (InEachRowImage (SayTheSame (row_words was))) (map g.L.Lines.history l.fn.parts) (map g.L.Lines.history l.parts));
  parts : HasParts (layout_of l.bounds.version) l.bounds.page l.bounds.entries (map g.L.Lines.room l.parts);
  rooms : StayParts (map g.L.Lines.room l.fn.parts) (map g.L.Lines.room l.parts);
  further : drop (1 + l.bounds.entries) (map g.L.Lines.history l.parts) ≡ drop (1 + l.bounds.entries) (map g.L.Lines.history l.fn.parts);
  lines : map (λ part. (g.L.Lines.room part).lines) l.parts ≡ map (λ part. (g.L.Lines.room part).lines) l.fn.parts;
  cause : sum_by g.L.Lines.fault_count l.parts ≡ sum_by g.L.Lines.fault_count l.fn.parts;
  devices : map g.L.Lines.device l.parts ≡ map g.L.Lines.device l.fn.parts;
}
