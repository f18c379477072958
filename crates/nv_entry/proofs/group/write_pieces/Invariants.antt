use Rattle.std.proofs.Common.{◌≡◌, All, map, sum_by}
use Rattle.nv_pmem.specs.Calls.{EachEnded, EndedWell, OnOne, seen_of}
use Rattle.nv_entry.specs.Group.{IsReady, pieces_steps}
use Rattle.nv_entry.proofs.group.write_pieces.Given as goal

-- the entries before this one are written
abbrev pub invariant-loop-i : goal.invariant-loop-i
invariant-loop-i g l = record {
  calls :
      EachEnded (OnOne EndedWell) (pieces_steps l.page l.first l.file l.at l.bytes l.i) (map (seen_of g.L.Lines.history g.L.Lines.room g.L.Lines.fault_count) l.fn.parts)
      (map (seen_of g.L.Lines.history g.L.Lines.room g.L.Lines.fault_count) l.parts);
  ready : All (λ part. IsReady l.page (g.L.Lines.room part)) l.parts;
  lines : map (λ part. (g.L.Lines.room part).lines) l.parts ≡ map (λ part. (g.L.Lines.room part).lines) l.fn.parts;
  faults : sum_by g.L.Lines.fault_count l.parts ≡ sum_by g.L.Lines.fault_count l.fn.parts;
  devices : map g.L.Lines.device l.parts ≡ map g.L.Lines.device l.fn.parts;
}
