-- Streams: what a source has left and what a sink was given, where they tell.
use Rattle.std.specs.Prelude.{◌≡◌, ℕ, ◌+◌, ◌-◌, ◌^◌, ◌<◌, ◌≤◌, min, List, [], ◌++◌, length, take, drop, Option, Some, IfSome}

-- so many of the bytes that were left went to the front of the buffer; none only where no byte was left, or no room
pub record Gives (left : List ℕ) (count : ℕ) (buffer new_buffer : List ℕ) : Type 0 where
  pub no_more : count ≤ length left
  pub bytes : new_buffer ≡ take count left ++ drop count buffer
  pub some : 0 < length buffer → count ≡ 0 → left ≡ []

-- what is left, where it is told, gives the bytes that a read took
pub record HasRead (old new : Option (List ℕ)) (count : ℕ) (buffer new_buffer : List ℕ) : Type 0 where
  pub bytes : IfSome old (λ left. Gives left count buffer new_buffer)
  pub rest : IfSome old (λ left. new ≡ Some (drop count left))

-- what was written, where it is told, has these bytes more
abbrev pub Appends : Option (List ℕ) → Option (List ℕ) → List ℕ → Type 0
Appends old new bytes = IfSome old (λ written. new ≡ Some (written ++ bytes))

-- one more of what is counted; the count stands still at its type's end
abbrev pub counted : ℕ → ℕ
counted count = min (count + 1) (2 ^ 64 - 1)
