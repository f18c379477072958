use Rattle.std.proofs.Common.{◌≡◌}
use Rattle.nv_plain.specs.Layouts.{version_2}
use Rattle.nv_pmem.specs.Steps.{DidLineStep}
use Rattle.nv_header.specs.Heads.{record_line}
use Rattle.nv_header.specs.Noted.{NotesLines}
use Rattle.nv_header.proofs.RecordsSteps.{first_records}
use Rattle.nv_header.proofs.migrating.write_records.Given as goal

-- the records of the names before this one are written
abbrev pub invariant-loop-index : goal.invariant-loop-index
invariant-loop-index g l = record {
  did : DidLineStep (first_records l.fn.names l.index) (g.L.Lines.history l.fn.header) (g.L.Lines.history l.header);
  room : NotesLines (record_line version_2 l.index) (g.L.Lines.room l.fn.header) (g.L.Lines.room l.header);
  faults : g.L.Lines.fault_count l.header ≡ g.L.Lines.fault_count l.fn.header;
  device : g.L.Lines.device l.header ≡ g.L.Lines.device l.fn.header;
}
