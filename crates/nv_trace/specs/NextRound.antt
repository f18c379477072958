-- What a reader answers that is to read the next round of an input.
use Rattle.std.specs.Prelude.{◌≡◌, ℕ, ◌+◌, ◌-◌, ◌≤◌, false, List, [], ◌∷◌, ◌++◌, ◌⊎◌, length, take, drop, vec_len}
use Rattle.nv_trace.specs.Lines.{ended_lines}
use Rattle.nv_trace.specs.Pending.{ending_from}
use Rattle.nv_trace.specs.Reading.{Ending, Whole, Bad, Long, after_lines, largest_input}
use Rattle.nv_trace.specs.Rounds.{IsRound, has_round}
use Rattle.nv_trace.specs.Traced.{Traced, token_count}
use Rattle.nv_trace.specs.declared.bad_line.BadLine.{BadLine}
use Rattle.nv_trace.specs.declared.read_error.ReadError.{ReadError}
use Rattle.nv_trace.specs.declared.read_error.ReadError.TheVariants as read_errors
use Rattle.nv_trace.specs.declared.reader.LineReader.{LineReader}

-- the bytes that were read of the source, and that no line has taken
abbrev pub ahead : LineReader → List ℕ
ahead reader = drop reader.start (take reader.end reader.buffer.items)

-- how an input ends, after this trace, of which these bytes are still to be taken
abbrev pub input_ends : Traced → LineReader → (rest : List ℕ) → Ending
input_ends trace reader rest = ending_from trace reader.pending.number reader.pending.line.items reader.taken rest

-- a reader stands before a line: nothing of it is taken, and each line before it had a byte at least
pub record IsAtLine (reader : LineReader) : Type 0 where
  pub start : reader.start ≤ reader.end
  pub end : reader.end ≤ 65536
  pub room : vec_len reader.buffer ≡ 65536
  pub bare : reader.pending.line.items ≡ []
  pub taken : reader.taken ≤ largest_input
  pub number : reader.pending.number ≤ reader.taken + 1

-- No more tokens and crashes came to the trace than bytes were taken: so a trace has no more of them than an input may have bytes, also where the source doesn't tell it.
abbrev pub AddsFewTokens : Traced → LineReader → (next : Traced) → LineReader → Type 0
AddsFewTokens trace old next new = token_count next + length next.lives + old.taken ≤ token_count trace + length trace.lives + new.taken

-- A round of an input was read, and these bytes are still to come.
pub record IsNextRound (trace : Traced) (old : LineReader) (input : List ℕ) (next : Traced) (new : LineReader) (behind : List ℕ) : Type 0 where
  -- no byte behind the round is taken
  pub bytes : List ℕ
  pub round : IsRound bytes
  pub rest : input ≡ bytes ++ behind
  -- the trace is the one behind its lines
  pub read : after_lines trace old.pending.number (ended_lines bytes) ≡ Whole next
  -- whatever follows is read as if the round were still before it
  pub goes_on : (more : List ℕ) → input_ends next new more ≡ input_ends trace old (bytes ++ more)

-- The last round was read: no line ends it, and it says what the input says.
pub record IsLastRound (trace : Traced) (old : LineReader) (input : List ℕ) (next : Traced) : Type 0 where
  pub no_round : has_round input ≡ false
  pub whole : input_ends trace old input ≡ Whole next

-- A round has a bad line, and none that ends it before.
pub record IsBadRound (trace : Traced) (old : LineReader) (input : List ℕ) (next : Traced) (bad : BadLine) : Type 0 where
  -- the bad line ends behind this front of the input
  pub front : List ℕ
  pub rest : List ℕ
  pub is : input ≡ front ++ rest
  -- by its line feed, or by the end of the input
  pub ends : (rest ≡ []) ⊎ ((behind : List ℕ) × (rest ≡ 10 ∷ behind))
  pub no_round : has_round front ≡ false
  pub line : after_lines trace old.pending.number (ended_lines (front ++ 10 ∷ [])) ≡ Bad bad
  -- the trace is the one behind the lines before it
  pub kept : after_lines trace old.pending.number (ended_lines front) ≡ Whole next
  -- it is the first bad line of the input
  pub whole : input_ends trace old input ≡ Bad bad

-- No line within the limit ends the round or is bad, and the input goes on past the limit.
pub record IsLongRound (trace : Traced) (old : LineReader) (input : List ℕ) (next : Traced) : Type 0 where
  pub no_round : has_round (take (largest_input - old.taken) input) ≡ false
  pub kept : after_lines trace old.pending.number (ended_lines (take (largest_input - old.taken) input)) ≡ Whole next
  pub whole : input_ends trace old input ≡ Long

-- A round is refused so; a failed read and want of memory tell nothing of it.
abbrev pub IsRoundRefused : Traced → LineReader → (input : List ℕ) → Traced → ReadError → Type 0
IsRoundRefused trace old input next (read_errors.Bad bad) = IsBadRound trace old input next bad
IsRoundRefused trace old input next read_errors.InputLong = IsLongRound trace old input next
IsRoundRefused trace old input next read_errors.Failed = Unit {0}
IsRoundRefused trace old input next read_errors.NoMemory = Unit {0}
