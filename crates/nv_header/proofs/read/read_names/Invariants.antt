use Rattle.std.proofs.Common.{◌≡◌, length}
use Rattle.nv_plain.specs.Layouts.{layout_of}
use Rattle.nv_pmem.specs.Moments.{Tells}
use Rattle.nv_pmem.specs.Room.{Keeps}
use Rattle.nv_header.specs.FileNames.{AreFileNames}
use Rattle.nv_header.specs.Heads.{header_image}
use Rattle.nv_header.specs.NextName.{AreNames}
use Rattle.nv_header.proofs.read.read_names.Given as goal

-- the names below this one are good
abbrev pub invariant-loop-i : goal.invariant-loop-i
invariant-loop-i g l = record {
  names : Tells (g.L.Lines.history l.fn.part) (λ now. AreNames (layout_of l.fn.version) (header_image now) l.i l.names);
  size : length l.names ≡ l.i;
  allowed : AreFileNames (layout_of l.fn.version) l.names;
  history : g.L.Lines.history l.part ≡ g.L.Lines.history l.fn.part;
  room : Keeps (g.L.Lines.room l.fn.part) (g.L.Lines.room l.part);
  faults : g.L.Lines.fault_count l.part ≡ g.L.Lines.fault_count l.fn.part;
  device : g.L.Lines.device l.part ≡ g.L.Lines.device l.fn.part;
}
