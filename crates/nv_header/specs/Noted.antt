-- Noted lines: what lines that are stored and flushed, with no fence yet, leave of the room of their part.
use Rattle.std.specs.Prelude.{◌≡◌, ℕ, ◌≤◌, ◌⊎◌}
use Rattle.nv_pmem.specs.Room.{Room}

-- a line can take 15 stores, now or after the next fence
abbrev pub IsSpareOrNoted : Room → ℕ → Type 0
IsSpareOrNoted room line = (15 ≤ room.spare line) ⊎ (15 ≤ room.after_fence line)

-- lines before this one were stored and flushed: they can take 15 stores after a fence, and the others what they could
pub record NotesLines (end : ℕ) (old new : Room) : Type 0 where
  pub lines_are : new.lines ≡ old.lines
  pub noted : (line : ℕ) → IsSpareOrNoted old line → IsSpareOrNoted new line
  pub rest : (line : ℕ) → end ≤ line → old.spare line ≤ new.spare line
