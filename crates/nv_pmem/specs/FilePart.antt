-- What contracts see of a part over a file: how many lines it has, how often it has failed, and whether it may write. It tells nothing.
use Rattle.std.specs.Prelude.{◌≡◌, ℕ, Bool, [], ◌∷◌, length, vec_len}
use Rattle.nv_pmem.specs.declared.file_part.FilePart.{FilePart}
use Rattle.nv_pmem.specs.Part.{Part}
use Rattle.nv_pmem.specs.Room.{Room}
use Rattle.nv_pmem.specs.Steps.{PartHistory}

module _ {R : Type 0} where
  -- A part over a file is told from others by nothing.
  abbrev pub part_device : FilePart R → ℕ
  part_device part = 0

  -- it has no states that it tells
  abbrev pub part_history : FilePart R → PartHistory
  part_history part = []

  -- Its lines. Any of them can always take 15 stores: it keeps the newest values alone, and no list of them.
  abbrev pub part_room : FilePart R → Room
  part_room part = record { lines = vec_len part.lines; spare = λ line. 15; after_fence = λ line. 15 }

  -- how often it has failed, up to 2^64 - 1
  abbrev pub part_faults : FilePart R → ℕ
  part_faults part = part.fault_counter

  -- whether it is looked at alone, and writes nothing
  abbrev pub is_read_only : FilePart R → Bool
  is_read_only part = part.is_read_only

  pub part_told_lines : (part : FilePart R) (now : Part) (past : PartHistory) → part_history part ≡ now ∷ past → length now ≡ (part_room part).lines
  part_told_lines part now past told = cc
