-- Spares: how many more stores each line of a part can take, as plain data.
use Rattle.std.specs.Prelude.{◌≡◌, ℕ, ◌<◌, List, length, map, slice_index_or}
use Rattle.std.specs.List.{range_with_len}
use Rattle.nv_pmem.specs.Room.{Room}
use Rattle.nv_pmem.specs.RoomSteps.{IsOnLine, RoomAfter, RoomAfterFault}
use Rattle.nv_pmem.specs.Steps.{LineStep}
use Rattle.nv_entry.specs.Group.{IsReady}
use Rattle.nv_header.specs.Regions.{IsRoomy}

-- of each line of a part, in order: how many more stores it can take now, and after the next fence
abbrev pub Spares : Type 0
Spares = List (ℕ × ℕ)

-- the room of a part with these spares: a line that it hasn't can take none
abbrev pub room_of_spares : Spares → Room
room_of_spares spares = record {
  lines = length spares;
  spare = λ line. (slice_index_or spares line (0, 0)).0;
  after_fence = λ line. (slice_index_or spares line (0, 0)).1;
}

-- the spares of a part's room
abbrev pub spares_of : Room → Spares
spares_of room = map (λ line. (room.spare line, room.after_fence line)) (range_with_len 0 room.lines)

-- ---- nothing is lost by them

-- What such a step leaves of a room it leaves of that of its spares; and what one leaves that failed, on whatever line.
pub record SparesKeep (step : LineStep) (old new : Room) : Type 0 where
  pub after : IsOnLine step old → RoomAfter step old new → RoomAfter step (room_of_spares (spares_of old)) (room_of_spares (spares_of new))
  pub after_fault : RoomAfterFault step old new → RoomAfterFault step (room_of_spares (spares_of old)) (room_of_spares (spares_of new))

abbrev pub SparesKeepSteps : Type 0
SparesKeepSteps = (step : LineStep) (old new : Room) → SparesKeep step old new

-- The spares of a room tell it: there are as many lines, and each of them can take as much. So the one is ready for an entry where the
-- other is, and has room for the stores of a header where the other has.
pub record IsTold (room : Room) : Type 0 where
  pub lines_are : (room_of_spares (spares_of room)).lines ≡ room.lines
  pub spare_is : (line : ℕ) → line < room.lines → (room_of_spares (spares_of room)).spare line ≡ room.spare line
  pub after_fence_is : (line : ℕ) → line < room.lines → (room_of_spares (spares_of room)).after_fence line ≡ room.after_fence line
  pub ready : (page : ℕ) → IsReady page room → IsReady page (room_of_spares (spares_of room))
  pub was_ready : (page : ℕ) → IsReady page (room_of_spares (spares_of room)) → IsReady page room
  pub roomy : (count : ℕ) → IsRoomy count room → IsRoomy count (room_of_spares (spares_of room))
  pub was_roomy : (count : ℕ) → IsRoomy count (room_of_spares (spares_of room)) → IsRoomy count room

abbrev pub SparesTell : Type 0
SparesTell = (room : Room) → IsTold room
