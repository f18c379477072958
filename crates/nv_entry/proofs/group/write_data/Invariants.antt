use Rattle.std.proofs.Common.{◌≡◌}
use Rattle.nv_pmem.specs.Calls.{EachEnded, EndedWell, seen_of}
use Rattle.nv_entry.specs.Ready.{WritesLines}
use Rattle.nv_entry.proofs.PieceSteps.{lines_steps}
use Rattle.nv_entry.proofs.group.write_data.Given as goal

-- the lines below this one are written
abbrev pub invariant-loop-k : goal.invariant-loop-k
invariant-loop-k g l = record {
  calls :
      EachEnded EndedWell (lines_steps l.fn.bytes 0 l.k) (seen_of g.L.Lines.history g.L.Lines.room g.L.Lines.fault_count l.fn.part)
      (seen_of g.L.Lines.history g.L.Lines.room g.L.Lines.fault_count l.part);
  room : WritesLines l.k (g.L.Lines.room l.fn.part) (g.L.Lines.room l.part);
  lines : (g.L.Lines.room l.part).lines ≡ (g.L.Lines.room l.fn.part).lines;
  faults : g.L.Lines.fault_count l.part ≡ g.L.Lines.fault_count l.fn.part;
  device : g.L.Lines.device l.part ≡ g.L.Lines.device l.fn.part;
}
