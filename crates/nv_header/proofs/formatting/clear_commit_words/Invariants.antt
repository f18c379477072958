use Rattle.std.proofs.Common.{◌≡◌, map, sum_by}
use Rattle.nv_plain.specs.Layouts.{layout_of}
use Rattle.nv_pmem.specs.Rows.{DidRow}
use Rattle.nv_header.specs.HeaderSteps.{clear_steps}
use Rattle.nv_header.specs.Regions.{HasParts}
use Rattle.nv_header.proofs.formatting.clear_commit_words.Given as goal

-- the entries before this one are cleared
abbrev pub invariant-loop-entry : goal.invariant-loop-entry
invariant-loop-entry g l = record {
  did : DidRow (clear_steps l.entry) (map g.L.Lines.history l.fn.parts) (map g.L.Lines.history l.parts);
  parts : HasParts (layout_of l.fn.version) l.fn.geometry.page l.fn.geometry.entries (map g.L.Lines.room l.parts);
  lines : map (λ part. (g.L.Lines.room part).lines) l.parts ≡ map (λ part. (g.L.Lines.room part).lines) l.fn.parts;
  cause : sum_by g.L.Lines.fault_count l.parts ≡ sum_by g.L.Lines.fault_count l.fn.parts;
  devices : map g.L.Lines.device l.parts ≡ map g.L.Lines.device l.fn.parts;
}
