use Rattle.std.proofs.Common.{◌≡◌, ◌*◌, min, length, take}
use Rattle.nv_plain.specs.Images.{lines_bytes}
use Rattle.nv_pmem.specs.Room.{Keeps}
use Rattle.nv_pmem.specs.Moments.{Tells}
use Rattle.nv_pmem.specs.Part.{part_word}
use Rattle.nv_entry.proofs.piece.read_data.Given as goal

-- the bytes of the lines below this one are read
abbrev pub invariant-loop-k : goal.invariant-loop-k
invariant-loop-k g l = record {
  read : Tells (g.L.Lines.history l.fn.part) (λ now.
      take (min (64 * l.k) (length l.into)) l.into ≡ take (min (64 * l.k) (length l.into)) (lines_bytes (part_word now) 1 l.k));
  history : g.L.Lines.history l.part ≡ g.L.Lines.history l.fn.part;
  room : Keeps (g.L.Lines.room l.fn.part) (g.L.Lines.room l.part);
  same_room : g.L.Lines.room l.part ≡ g.L.Lines.room l.fn.part;
  faults : g.L.Lines.fault_count l.part ≡ g.L.Lines.fault_count l.fn.part;
  device : g.L.Lines.device l.part ≡ g.L.Lines.device l.fn.part;
}
