use Rattle.std.proofs.Common.{◌≡◌, ◌*◌, length, take}
use Rattle.std.specs.Int.{to_le_bytes, w64}
use Rattle.std.specs.List.{flat_map, range_with_len}
use Rattle.nv_pmem.specs.Moments.{Tells}
use Rattle.nv_pmem.specs.Room.{Keeps}
use Rattle.nv_header.proofs.Records.{word_from}
use Rattle.nv_header.proofs.record.Record.load.Given as goal

-- the words below this one are loaded
abbrev pub invariant-loop-k : goal.invariant-loop-k
invariant-loop-k g l = record {
  size : length l.room ≡ 248;
  loaded : Tells (g.L.Lines.history l.fn.part) (λ now.
      take (8 * l.k) l.room ≡ flat_map (λ j. to_le_bytes w64 (word_from now l.first j)) (range_with_len 1 l.k));
  history : g.L.Lines.history l.part ≡ g.L.Lines.history l.fn.part;
  room : Keeps (g.L.Lines.room l.fn.part) (g.L.Lines.room l.part);
  faults : g.L.Lines.fault_count l.part ≡ g.L.Lines.fault_count l.fn.part;
  device : g.L.Lines.device l.part ≡ g.L.Lines.device l.fn.part;
}
