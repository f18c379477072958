-- Room: what the writing of an entry leaves each line of its part.
use Rattle.std.specs.Prelude.{◌≢◌, ℕ, ◌+◌, ◌<◌, ◌≤◌}
use Rattle.nv_pmem.specs.Room.{Room}

-- so many data lines, from line 1 on, are written: they can take 15 stores after a fence, and the others what they could
pub record WritesLines (count : ℕ) (old new : Room) : Type 0 where
  pub written : (k : ℕ) → k < count → 15 ≤ new.after_fence (1 + k)
  pub head : old.spare 0 ≤ new.spare 0
  pub rest : (line : ℕ) → count < line → old.spare line ≤ new.spare line

-- line 0 can take 15 stores again, and each other line what it could, or could after a fence
pub record FencesHead (old new : Room) : Type 0 where
  pub head : 15 ≤ new.spare 0
  pub rest : (line : ℕ) → line ≢ 0 → old.spare line ≤ new.spare line
  pub freed : (line : ℕ) → line ≢ 0 → old.after_fence line ≤ new.spare line

-- a line that could take 15 stores still can
pub record StaysReady (old new : Room) : Type 0 where
  pub spare : (line : ℕ) → 15 ≤ old.spare line → 15 ≤ new.spare line
