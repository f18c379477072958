use Rattle.std.proofs.Common.{◌≡◌, ◌+◌}
use Rattle.nv_plain.specs.Layouts.{layout_of}
use Rattle.nv_pmem.specs.Steps.{DidLineStep}
use Rattle.nv_header.specs.Heads.{record_line}
use Rattle.nv_header.specs.HeaderSteps.{record_part}
use Rattle.nv_header.specs.Noted.{NotesLines}
use Rattle.nv_header.proofs.RecordSteps.{lines_steps}
use Rattle.nv_header.proofs.writing.write_record.Given as goal

-- the lines below this one are written
abbrev pub invariant-loop-k : goal.invariant-loop-k
invariant-loop-k g l = record {
  did :
      DidLineStep (lines_steps (record_line (layout_of l.fn.version) l.fn.index) (record_part (layout_of l.fn.version) l.fn.name) 0 l.k)
      (g.L.Lines.history l.fn.header) (g.L.Lines.history l.header);
  room : NotesLines (record_line (layout_of l.fn.version) l.fn.index + l.k) (g.L.Lines.room l.fn.header) (g.L.Lines.room l.header);
  faults : g.L.Lines.fault_count l.header ≡ g.L.Lines.fault_count l.fn.header;
  device : g.L.Lines.device l.header ≡ g.L.Lines.device l.fn.header;
}
