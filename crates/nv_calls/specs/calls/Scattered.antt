-- Scattered: what contracts see of the parts of a vectored read.
use Rattle.std.specs.Prelude.{ℕ, List}

-- how many bytes each part asks for, the bytes in their room, as many as all of them ask for together, and what each part got
pub record Scattered : Type 0 where
  pub lens : List ℕ
  pub list : List ℕ
  pub parts : List (List ℕ)
