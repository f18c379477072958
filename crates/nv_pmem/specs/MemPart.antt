-- What contracts see of a part in memory.
use Rattle.std.specs.Prelude.{◌≡◌, ℕ, ◌<◌, [], ◌∷◌, length, replicate}
use Rattle.nv_pmem.specs.declared.mem_part.MemPart.{MemPart}
use Rattle.nv_pmem.specs.Part.{Part, blank_line}
use Rattle.nv_pmem.specs.Room.{Room}
use Rattle.nv_pmem.specs.Steps.{PartHistory}
use Rattle.nv_pmem.specs.Told.{told_part_history, told_room}

-- A part in memory is told from others by nothing.
abbrev pub part_device : MemPart → ℕ
part_device part = 0

-- its states, the present one first
abbrev pub part_history : MemPart → PartHistory
part_history part = told_part_history part.told

-- its present state
abbrev pub part_now : MemPart → Part
part_now part = part.told.lines.items

-- its lines, and what each can take
abbrev pub part_room : MemPart → Room
part_room part = told_room part.told

-- how often it has failed, up to 2^64 - 1
abbrev pub part_faults : MemPart → ℕ
part_faults part = part.fault_counter

-- lines of zeros, durable, that have had no other state and have never failed
pub record IsBlankMemPart (lines : ℕ) (part : MemPart) : Type 0 where
  pub history : part_history part ≡ replicate lines blank_line ∷ []
  pub count : (part_room part).lines ≡ lines
  pub spare : (line : ℕ) → line < lines → (part_room part).spare line ≡ 15
  pub faults : part_faults part ≡ 0

-- it holds these lines, has had no other state and has never failed
pub record IsNewPart (now : Part) (part : MemPart) : Type 0 where
  pub history : part_history part ≡ now ∷ []
  pub faults : part_faults part ≡ 0

pub part_told_lines : (part : MemPart) (now : Part) (past : PartHistory) → part_history part ≡ now ∷ past → length now ≡ (part_room part).lines
part_told_lines part now past told = cc
