-- Room after steps: what each step on a part leaves of its room, as the clauses of `Lines` say it of their calls.
use Rattle.std.specs.Prelude.{◌≡◌, ℕ, ◌<◌, ◌≤◌, List, [], ◌∷◌}
use Rattle.nv_pmem.specs.Room.{Room, Keeps, Takes, Frees}
use Rattle.nv_pmem.specs.Steps.{LineStep, StoreWord, Flush, Fence, line_stores}

-- a step is on a line that is there
abbrev pub IsOnLine : LineStep → Room → Type 0
IsOnLine (StoreWord line word value) room = line < room.lines
IsOnLine (Flush line) room = line < room.lines
IsOnLine Fence room = Unit {0}

-- a step that ended well
abbrev pub RoomAfter : LineStep → (old new : Room) → Type 0
RoomAfter (StoreWord line word value) old new = Takes 1 line old new
RoomAfter (Flush line) old new = Keeps old new × (15 ≤ new.after_fence line)
RoomAfter Fence old new = Keeps old new × Frees old new

-- One that failed. One of the eight stores of a line that failed leaves what all of them may.
abbrev pub RoomAfterFault : LineStep → (old new : Room) → Type 0
RoomAfterFault (StoreWord line word value) old new = Takes 1 line old new
RoomAfterFault step old new = Keeps old new

-- Whatever room some steps leave, one after another, it has a property in the end.
abbrev pub EndWith : (Room → Type 0) → List LineStep → Room → Type 0
EndWith P [] room = P room
EndWith P (step ∷ steps) room = (next : Room) → RoomAfter step room next → EndWith P steps next

-- the room before some steps and that after them, where each leaves what it may
abbrev pub RoomThrough : List LineStep → (old new : Room) → Type 0
RoomThrough [] old new = old ≡ new
RoomThrough (step ∷ steps) old new = (next : Room) × RoomAfter step old next × RoomThrough steps next new

-- A call that stores a line leaves what its eight stores may, one after another.
abbrev pub LineIsItsStores : Type 0
LineIsItsStores = (line : ℕ) (bytes : List ℕ) (old new : Room) → Takes 1 line old new → RoomThrough (line_stores line bytes) old new
