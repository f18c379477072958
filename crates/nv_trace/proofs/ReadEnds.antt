-- What is said of where the reading of an input goes on, behind the rounds that were read.
use Rattle.std.proofs.Common.{ℕ, List, [], ◌∷◌, ◌⊎◌, inl, inr}
use Rattle.nv_trace.specs.ReadRounds.{AreReadFrom, ReadRound, without_calls}
use Rattle.nv_trace.specs.Traced.{Traced}
use Rattle.nv_trace.specs.declared.reader.LineReader.{LineReader}

pub read_weaker : (rounds : List ReadRound) (trace : Traced) (reader : LineReader) (input : List ℕ) (P Q : Traced → LineReader → List ℕ → Type 0)
    → ((trace : Traced) (reader : LineReader) (input : List ℕ) → P trace reader input → Q trace reader input) → AreReadFrom trace reader input rounds P → AreReadFrom trace reader input rounds Q
read_weaker [] trace reader input P Q weaker read = weaker trace reader input read
read_weaker (round ∷ rounds) trace reader input P Q weaker read = (read.0, read_weaker rounds (without_calls round.trace) round.reader round.behind P Q weaker read.1)

-- one of two is said there
pub read_either : (rounds : List ReadRound) (trace : Traced) (reader : LineReader) (input : List ℕ) (P Q : Traced → LineReader → List ℕ → Type 0)
    → AreReadFrom trace reader input rounds (λ trace reader input. P trace reader input ⊎ Q trace reader input) → AreReadFrom trace reader input rounds P ⊎ AreReadFrom trace reader input rounds Q
read_either [] trace reader input P Q read = read
read_either (round ∷ rounds) trace reader input P Q read = elim (read_either rounds (without_calls round.trace) round.reader round.behind P Q read.1) [
  | inl one ↦ inl (read.0, one)
  | inr other ↦ inr (read.0, other)
]
