-- What is read of an entry.
use Rattle.std.specs.Prelude.{◌≡◌, ℕ, List, ◌++◌, drop}
use Rattle.nv_plain.specs.Images.{entry_of, data_of}
use Rattle.nv_pmem.specs.Part.{Part, part_word}
use Rattle.nv_entry.specs.declared.piece.PieceHead.{PieceHead}

-- the head of the entry that a part holds
abbrev pub head_of : Part → PieceHead
head_of part = record {
  file = (entry_of (part_word part)).file;
  at = (entry_of (part_word part)).at;
  size = (entry_of (part_word part)).size;
  count = (entry_of (part_word part)).count;
  leader = (entry_of (part_word part)).leader;
}

-- the buffer has the first bytes of the entry's data in front, and its own bytes behind them
abbrev pub IsFilled : Part → ℕ → List ℕ → List ℕ → Type 0
IsFilled part size old new = new ≡ data_of (part_word part) size ++ drop size old
