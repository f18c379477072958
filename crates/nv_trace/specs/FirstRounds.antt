-- The first rounds of an input: what is read of it before its end is known.
use Rattle.std.specs.Prelude.{◌≡◌, ℕ, ◌≤◌, List, [], ◌∷◌, ◌++◌, codes, length}
use Rattle.nv_trace.specs.Lines.{ended_lines}
use Rattle.nv_trace.specs.NextRound.{IsAtLine, IsRoundRefused}
use Rattle.nv_trace.specs.ReadRounds.{AreReadFrom, ReadRound, behind_calls, calls_read}
use Rattle.nv_trace.specs.Reading.{ending_of, Whole}
use Rattle.nv_trace.specs.Traced.{Traced, empty_trace}
use Rattle.nv_trace.specs.declared.read_error.ReadError.{ReadError}
use Rattle.nv_trace.specs.declared.read_error.ReadError.TheVariants as read_errors
use Rattle.nv_trace.specs.declared.reader.LineReader.{LineReader}
use Rattle.nv_trace.specs.declared.trace.Form.{Form}

-- These bytes are some first rounds of an input: its lines up to one of its `round` lines.
pub record AreFirstRounds (input bytes : List ℕ) : Type 0 where
  pub before : List ℕ
  pub is : bytes ≡ before ++ 10 ∷ []
  pub lines : List (List ℕ)
  pub last : ended_lines bytes ≡ lines ++ codes "round" ∷ []
  pub rest : List ℕ
  pub first : input ≡ bytes ++ rest

-- Some first rounds of an input that is a trace are a trace that names all its files.
abbrev pub FirstRoundsNameAll : Type 0
FirstRoundsNameAll =
    (form : Form) (input bytes : List ℕ) (first whole : Traced) → AreFirstRounds input bytes → ending_of form bytes ≡ Whole first → ending_of form input ≡ Whole whole → whole.names ≡ first.names

-- Rounds of an input that were read from its start, one at least, are some first rounds of it, and these bytes are a trace of their calls.
abbrev pub RoundsReadAreFirst : Type 0
RoundsReadAreFirst =
    (form : Form) (reader : LineReader) (input : List ℕ) (first : ReadRound) (rounds : List ReadRound) (last : Traced) → IsAtLine reader → reader.pending.number ≡ 1 → reader.taken ≡ 0
    → AreReadFrom (empty_trace form) reader input (first ∷ rounds) (λ trace reader input. IsAtLine reader × (trace ≡ last))
    → (bytes : List ℕ) × AreFirstRounds input bytes × (ending_of form bytes ≡ Whole (behind_calls (calls_read (first ∷ rounds)) last))

-- These bytes are the first rounds of an input that were read: none, where no round was.
abbrev pub AreRoundsRead : (input : List ℕ) → List ReadRound → (bytes : List ℕ) → Type 0
AreRoundsRead input [] bytes = bytes ≡ []
AreRoundsRead input (first ∷ rounds) bytes = AreFirstRounds input bytes

-- No first rounds of an input that are longer than these bytes are a trace.
abbrev pub NoneIsLonger : Form → (input bytes : List ℕ) → Type 0
NoneIsLonger form input bytes = (other : List ℕ) (trace : Traced) → AreFirstRounds input other → ending_of form other ≡ Whole trace → length other ≤ length bytes

-- an error that tells of the input: a line of it is bad, or it is too long
abbrev pub TellsOfInput : ReadError → Type 0
TellsOfInput (read_errors.Bad bad) = Unit {0}
TellsOfInput read_errors.InputLong = Unit {0}
TellsOfInput read_errors.Failed = ⊥
TellsOfInput read_errors.NoMemory = ⊥

-- Where rounds of an input were read from its start, and the next one is refused for what the input is, they are its longest first rounds that are a trace.
abbrev pub RefusedRoundsAreTheLast : Type 0
RefusedRoundsAreTheLast =
    (form : Form) (reader : LineReader) (input : List ℕ) (rounds : List ReadRound) (last next : Traced) (error : ReadError) → IsAtLine reader → reader.pending.number ≡ 1 → reader.taken ≡ 0
    → AreReadFrom (empty_trace form) reader input rounds (λ trace reader input. (IsAtLine reader × (trace ≡ last)) × IsRoundRefused trace reader input next error) → TellsOfInput error
    → (bytes : List ℕ) × AreRoundsRead input rounds bytes × (ending_of form bytes ≡ Whole (behind_calls (calls_read rounds) last)) × NoneIsLonger form input bytes
