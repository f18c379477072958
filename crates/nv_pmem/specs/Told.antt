-- Lines in memory, with the states that they have had.
use Rattle.std.specs.Prelude.{ℕ, ◌-◌, max, [], ◌∷◌, length, map}
use Rattle.nv_pmem.specs.declared.told.Told.{Told}
use Rattle.nv_pmem.specs.Part.{Line, Part, line_of, fenced}
use Rattle.nv_pmem.specs.Room.{Room}
use Rattle.nv_pmem.specs.Steps.{PartHistory}

-- the states of some lines, the present one first
abbrev pub told_part_history : Told → PartHistory
told_part_history told = told.lines.items ∷ map (λ lines. lines.items) told.past.states

-- how many values the words of a line had at most since they were last made durable
abbrev pub most_later : Line → ℕ
most_later [] = 0
most_later (word ∷ line) = max (length word.later) (most_later line)

-- How many more stores a line can take: of each word 16 values are kept, one of which is the durable one.
abbrev pub spare_of : Line → ℕ
spare_of line = 15 - most_later line

-- the room of lines of which 16 values of each word are kept
abbrev pub room_of : Part → Room
room_of part = record {
  lines = length part;
  spare = λ line. spare_of (line_of part line);
  after_fence = λ line. spare_of (fenced (line_of part line));
}

abbrev pub told_room : Told → Room
told_room told = room_of told.lines.items
