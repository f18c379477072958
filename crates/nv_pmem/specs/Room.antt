-- Room: how many lines a part has, and how many more stores each of them can take.
use Rattle.std.specs.Prelude.{◌≡◌, ◌≢◌, ℕ, ◌+◌, ◌≤◌}

-- A part keeps at most 16 values of a word. A line can take so many more stores, each of some of its words or of all eight: now,
-- and after the next fence.
pub record Room : Type 0 where
  pub lines : ℕ
  pub spare : ℕ → ℕ
  pub after_fence : ℕ → ℕ

-- no line can take less than before
pub record Keeps (old new : Room) : Type 0 where
  pub lines : new.lines ≡ old.lines
  pub spare : (line : ℕ) → old.spare line ≤ new.spare line
  pub after_fence : (line : ℕ) → old.after_fence line ≤ new.after_fence line

-- one line may take count less than before, and no other line less
pub record Takes (count line : ℕ) (old new : Room) : Type 0 where
  pub lines : new.lines ≡ old.lines
  pub spare : old.spare line ≤ new.spare line + count
  pub after_fence : old.after_fence line ≤ new.after_fence line + count
  pub other_spare : (other : ℕ) → other ≢ line → old.spare other ≤ new.spare other
  pub other_after_fence : (other : ℕ) → other ≢ line → old.after_fence other ≤ new.after_fence other

-- each line can take now what it could after a fence
pub record Frees (old new : Room) : Type 0 where
  pub spare : (line : ℕ) → old.after_fence line ≤ new.spare line

-- one line can take 15 stores, and each other line what it could, or could after a fence
pub record Settles (line : ℕ) (old new : Room) : Type 0 where
  pub spare : 15 ≤ new.spare line
  pub other_spare : (other : ℕ) → other ≢ line → old.spare other ≤ new.spare other
  pub freed : (other : ℕ) → other ≢ line → old.after_fence other ≤ new.spare other
