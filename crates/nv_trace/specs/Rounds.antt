-- Rounds: the stretches of an input that its `round` lines end.
use Rattle.std.specs.Prelude.{◌≡◌, ℕ, Bool, true, false, List, [], ◌∷◌, ◌++◌, codes}
use Rattle.std.specs.List.{list_any}
use Rattle.nv_trace.specs.Grammar.{says}
use Rattle.nv_trace.specs.Lines.{ended_lines}

-- whether a line ends a round
abbrev pub ends_round : List ℕ → Bool
ends_round line = says line (codes "round")

-- whether one of the lines that these bytes end does
abbrev pub has_round : List ℕ → Bool
has_round bytes = list_any ends_round (ended_lines bytes)

-- the bytes of a round: its last line feed ends a `round` line, and none before it does
pub record IsRound (bytes : List ℕ) : Type 0 where
  pub before : List ℕ
  pub is : bytes ≡ before ++ 10 ∷ []
  pub first : has_round before ≡ false
  pub ended : has_round bytes ≡ true
